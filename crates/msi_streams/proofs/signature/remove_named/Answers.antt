use Rattle.std.proofs.Common.{◌≡◌, ◌∙◌, ℕ, List, [], ◌∷◌, ap, sym, true, false, Some}
use Rattle.std.specs.Prelude.{chars, Ok}
use Rattle.cfb.specs.Views.{file_case_table, said_at}
use Rattle.cfb.proofs.PutStreams.{means_shown}
use Rattle.cfb_entries.specs.Rules.{names_in}
use Rattle.cfb_spec.specs.TreeRules.{is_stream, remove_stream, tree_step, yes}
use Rattle.cfb_tree.specs.CaseTableViews.{case_table_of}
use Rattle.cfb_tree.specs.Objects.{is_same_name}
use Rattle.msi_spec.specs.Package.{summary_name}
use Rattle.msi_streams.specs.Writing.{without, AppliesPackageRule}
use Rattle.msi_streams.proofs.Exits.{does_puts, first_refused, rule_done, rule_rests}
use Rattle.msi_streams.proofs.Naming.{summary_chars}
use Rattle.msi_streams.proofs.Streams.{said_stream}
use Rattle.msi_streams.proofs.Unsigned.{named_accepts, none_stays, summary_stays}
use Rattle.msi_streams.proofs.signature.remove_named.Goals as goal

pub returns-in-Err-clause-changes : goal.returns-in-Err-clause-changes
returns-in-Err-clause-changes g c =
    let old = c.args.file.now in
    first_refused (AppliesPackageRule (λ P. Ok (without (file_case_table old) (chars c.args.name.now) P))) old c.in-Err.error c.in-Err.ensures.refused_only_if

pub returns-then-is_same_name-clause-changes : goal.returns-then-is_same_name-clause-changes
returns-then-is_same_name-clause-changes g c =
    let old = c.args.file.now in
    let letters = file_case_table old in
    let name = chars c.args.name.now in
    let same : is_same_name letters summary_name name ≡ true =
    ap (λ l. is_same_name l summary_name name) (sym c.letters.ensures) ∙ ap (λ (n : List ℕ). is_same_name (case_table_of c.letters.result.now) n name) (sym summary_chars) ∙ sym c.is_same_name.ensures ∙ c.if-is_same_name.true in
    rule_rests (AppliesPackageRule (λ P. Ok (without letters name P))) old c.in_default.ensures.open (λ tree P m s. summary_stays letters tree name (means_shown old tree m).ordered.0 P s same)

pub returns-then-not-is_stream-clause-changes : goal.returns-then-not-is_stream-clause-changes
returns-then-not-is_stream-clause-changes g c =
    let old = c.args.file.now in
    let letters = file_case_table old in
    let name = chars c.args.name.now in
    rule_rests (AppliesPackageRule (λ P. Ok (without letters name P))) old c.in_default.ensures.open (λ tree P m s.
    let shows = means_shown old tree m in
    let told : yes false ≡ said_at letters tree is_stream (Some (name ∷ [])) =
    ap (λ b. yes b) (sym c.if-not-is_stream.true) ∙ c.is_stream.ensures tree shows ∙ ap (said_at letters tree is_stream) c.requires.path in
    none_stays letters tree name shows.ordered.0 P s (said_stream letters tree name false told))

pub returns-clause-changes : goal.returns-clause-changes
returns-clause-changes g c =
    let old = c.args.file.now in
    let letters = file_case_table old in
    let name = chars c.args.name.now in
    let other : is_same_name letters summary_name name ≡ false =
    ap (λ l. is_same_name l summary_name name) (sym c.letters.ensures) ∙ ap (λ (n : List ℕ). is_same_name (case_table_of c.letters.result.now) n name) (sym summary_chars) ∙ sym c.is_same_name.ensures ∙ c.if-is_same_name.false in
    rule_done (AppliesPackageRule (λ P. Ok (without letters name P))) old (λ letters tree path. tree_step letters tree (remove_stream path)) (names_in c.args.name.now) (name ∷ []) c.requires.path c.remove_stream.new.self c.remove_stream.result
    (does_puts (λ names. remove_stream names) (names_in c.args.name.now) (name ∷ []) c.requires.path old c.remove_stream.new.self c.remove_stream.result c.remove_stream.ensures.tree_rule) (λ tree P m s.
    let shows = means_shown old tree m in
    let told : yes true ≡ said_at letters tree is_stream (Some (name ∷ [])) =
    ap (λ b. yes b) (sym c.if-not-is_stream.false) ∙ c.is_stream.ensures tree shows ∙ ap (said_at letters tree is_stream) c.requires.path in
    named_accepts letters tree name shows.ordered.0 P s c.requires.unmarked other (said_stream letters tree name true told))
