use Rattle.std.proofs.Common.{◌≡◌, ◌∙◌, [], ◌∷◌, ap, sym, subst, true, chars, Some, None}
use Rattle.std.specs.Prelude.{MatchResult, option_map, if◌then◌else◌, ℕ, List, Option}
use Rattle.std.proofs.lemmas.Str.{chars-encodes, scalars-chars}
use Rattle.cfb.specs.Views.{file_case_table}
use Rattle.cfb_entries.specs.Rules.{names_in}
use Rattle.cfb_medium.specs.Calls.{IsFaultOrInvalidInputIf}
use Rattle.msi_spec.specs.Package.{has_slash, objects, stream_at, stream_name}
use Rattle.msi_texts.specs.StreamName.{spelled_name}
use Rattle.msi_texts.proofs.SpelledNames.{scalars-spelled_name}
use Rattle.msi_stored.proofs.Children.{table_path}
use Rattle.msi_stored.specs.Shown.{IsLostAt, bytes_in}
use Rattle.msi_store.proofs.bytes.table_bytes.Goals as goal

pub stream_bytes-requires : goal.stream_bytes-requires
stream_bytes-requires g c =
    let name = c.args.name.now in
    let text = c.deref.ensures ∙ c.in_ok-path.ensures.text in
    ap names_in text ∙ table_path name c.utf8.name (sym c.has_slash.ensures ∙ c.if-has_slash.false)
    ∙ ap (λ n. Some (n ∷ [])) (sym (ap chars text ∙ chars-encodes (spelled_name true (chars name)) (scalars-spelled_name true (chars name) (scalars-chars name c.utf8.name))))

pub returns-clause-answer : goal.returns-clause-answer
returns-clause-answer g c tree held =
    let letters = file_case_table c.args.file.now in
    let name = c.args.name.now in
    let text = c.deref.ensures ∙ c.in_ok-path.ensures.text in
    let same : chars c.deref.result.now ≡ stream_name name = ap chars text ∙ chars-encodes (spelled_name true (chars name)) (scalars-spelled_name true (chars name) (scalars-chars name c.utf8.name)) in
    let whole : stream_at letters (objects tree.content) (chars c.deref.result.now) ≡ (if has_slash name then None else stream_at letters (objects tree.content) (stream_name name)) =
    ap (stream_at letters (objects tree.content)) same
    ∙ ap (λ b. if b then None else stream_at letters (objects tree.content) (stream_name name)) (sym (sym c.has_slash.ensures ∙ c.if-has_slash.false)) in
    subst (λ (o : Option (List ℕ)). MatchResult c.stream_bytes.result (λ found. o ≡ option_map (λ bytes. bytes.items) found) (IsFaultOrInvalidInputIf ⊥)) whole (c.stream_bytes.ensures.answer tree held)

pub returns-clause-shown : goal.returns-clause-shown
returns-clause-shown g c tree shown =
    let letters = file_case_table c.args.file.now in
    let name = c.args.name.now in
    let text = c.deref.ensures ∙ c.in_ok-path.ensures.text in
    let same : chars c.deref.result.now ≡ stream_name name = ap chars text ∙ chars-encodes (spelled_name true (chars name)) (scalars-spelled_name true (chars name) (scalars-chars name c.utf8.name)) in
    let whole : stream_at letters (objects tree.content) (stream_name name) ≡ (if has_slash name then None else stream_at letters (objects tree.content) (stream_name name)) =
    ap (λ b. if b then None else stream_at letters (objects tree.content) (stream_name name)) (sym (sym c.has_slash.ensures ∙ c.if-has_slash.false)) in
    subst (λ (o : Option (List ℕ)). MatchResult c.stream_bytes.result (λ found. o ≡ option_map (λ bytes. bytes.items) found) (IsLostAt letters (bytes_in c.args.file.now) (stream_name name))) whole
    (subst (λ (n : List ℕ). MatchResult c.stream_bytes.result (λ found. stream_at letters (objects tree.content) n ≡ option_map (λ bytes. bytes.items) found) (IsLostAt letters (bytes_in c.args.file.now) n)) same
    (c.stream_bytes.ensures.shown tree shown))
