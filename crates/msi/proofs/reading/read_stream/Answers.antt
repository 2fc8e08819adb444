use Rattle.std.proofs.Common.{◌≡◌, ◌∙◌, [], ◌∷◌, ap, sym, inl, inr, Some, None}
use Rattle.std.specs.Prelude.{Ok, option_map}
use Rattle.std.specs.Str.{chars}
use Rattle.cfb.proofs.Holding.{holds_shown}
use Rattle.cfb.specs.Views.{file_case_table}
use Rattle.cfb_entries.specs.Rules.{names_in}
use Rattle.cfb_medium.specs.declared.error.Error.TheVariants.{NotFound}
use Rattle.cfb_tree.specs.CaseTableViews.{case_table_of}
use Rattle.msi_spec.specs.Package.{objects, stream_at}
use Rattle.msi_spec.specs.Streams.{may_name, plain_stream_name}
use Rattle.msi_texts.specs.Results.{or_refused}
use Rattle.msi.proofs.Found.{found_taken}
use Rattle.msi_streams.proofs.Naming.{plain_chars}
use Rattle.msi.proofs.Taken.{read_taken}
use Rattle.msi_streams.proofs.Taken.{taken_path}
use Rattle.msi.proofs.reading.read_stream.Goals as goal

pub stream_bytes-requires : goal.stream_bytes-requires
stream_bytes-requires g c =
    let name = c.args.name.now in
    let text = c.as_str.ensures ∙ c.in-Ok.ensures.answer.1 in
    ap names_in text ∙ taken_path (case_table_of c.letters.result.now) name c.in-Ok.ensures.answer.0 c.utf8.name
    ∙ ap (λ n. Some (n ∷ [])) (sym (ap chars text ∙ plain_chars name c.utf8.name))

pub returns-in-Ok-Some-clause-answer : goal.returns-in-Ok-Some-clause-answer
returns-in-Ok-Some-clause-answer g c tree held P stores may =
    let letters = file_case_table c.args.file.now in
    let name = c.args.name.now in
    let plain : chars c.as_str.result.now ≡ plain_stream_name name = ap chars (c.as_str.ensures ∙ c.in-Ok.ensures.answer.1) ∙ plain_chars name c.utf8.name in
    let taken : may_name letters name ≡ Ok tt = ap (λ l. may_name l name) (sym c.letters.ensures) ∙ c.in-Ok.ensures.answer.0 in
    let there : stream_at letters (objects tree.content) (plain_stream_name name) ≡ Some c.in-Ok-Some.bytes.items =
    ap (stream_at letters (objects tree.content)) (sym plain) ∙ c.in-Ok-Some.ensures.answer tree held ∙ ap (option_map (λ bytes. bytes.items)) c.in-Ok-Some.field-0-is in
    read_taken letters P name taken
    ∙ ap (λ o. or_refused o NotFound) (found_taken letters may tree P stores (holds_shown c.args.file.now tree held).ordered.0 name taken ∙ there)
    ∙ ap (λ it. Ok it.bytes) (sym c.new.ensures)

pub returns-in-Ok-None-clause-answer : goal.returns-in-Ok-None-clause-answer
returns-in-Ok-None-clause-answer g c tree held P stores may =
    let letters = file_case_table c.args.file.now in
    let name = c.args.name.now in
    let plain : chars c.as_str.result.now ≡ plain_stream_name name = ap chars (c.as_str.ensures ∙ c.in-Ok.ensures.answer.1) ∙ plain_chars name c.utf8.name in
    let taken : may_name letters name ≡ Ok tt = ap (λ l. may_name l name) (sym c.letters.ensures) ∙ c.in-Ok.ensures.answer.0 in
    let there : stream_at letters (objects tree.content) (plain_stream_name name) ≡ None =
    ap (stream_at letters (objects tree.content)) (sym plain) ∙ c.in-Ok-None.ensures.answer tree held ∙ ap (option_map (λ bytes. bytes.items)) c.in-Ok-None.field-0-is in
    inr (read_taken letters P name taken
    ∙ ap (λ o. or_refused o NotFound) (found_taken letters may tree P stores (holds_shown c.args.file.now tree held).ordered.0 name taken ∙ there))

pub returns-in-Err-stream_bytes-clause-answer : goal.returns-in-Err-stream_bytes-clause-answer
returns-in-Err-stream_bytes-clause-answer g c tree held P stores may = inl (c.in-Err-stream_bytes.ensures.answer tree held)
