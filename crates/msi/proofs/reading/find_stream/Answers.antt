use Rattle.std.proofs.Common.{◌≡◌, ◌∙◌, [], ◌∷◌, ap, sym, inl, inr, subst, Some, None, ⊎_elim}
use Rattle.std.specs.Prelude.{Ok}
use Rattle.cfb.proofs.Holding.{holds_shown}
use Rattle.cfb.specs.Views.{file_case_table}
use Rattle.cfb_entries.specs.Rules.{names_in}
use Rattle.cfb_medium.specs.Calls.{IsFaultOrInvalidInputIf}
use Rattle.cfb_medium.specs.declared.error.Error.TheVariants.{NotFound}
use Rattle.msi_spec.specs.Package.{objects, stream_at}
use Rattle.msi_spec.specs.Streams.{may_name, plain_stream_name}
use Rattle.msi_texts.specs.Results.{or_refused}
use Rattle.msi.proofs.Found.{found_taken}
use Rattle.msi.proofs.Taken.{read_taken}
use Rattle.msi_stored.proofs.Children.{none_of, refused_of, some_of}
use Rattle.msi_streams.proofs.Taken.{taken_path}
use Rattle.msi.proofs.reading.find_stream.Goals as goal

pub returns-then-not-is_stream-clause-answer : goal.returns-then-not-is_stream-clause-answer
returns-then-not-is_stream-clause-answer g c tree held P stores may =
    let it = c.args.file.now in
    let letters = file_case_table it in
    let name = c.args.name.now in
    let plain = plain_stream_name name in
    let text = c.as_str-path.result.now in
    let taken : may_name letters name ≡ Ok tt = ap (λ l. may_name l name) (sym c.letters.ensures) ∙ c.in-Ok.ensures.answer.0 in
    let one : names_in text ≡ Some (plain ∷ []) = ap names_in (c.as_str-path.ensures ∙ c.in-Ok.ensures.answer.1) ∙ taken_path letters name taken c.utf8.name in
    let there : stream_at letters (objects tree.content) plain ≡ None = none_of letters tree text plain one c.is_stream.result c.if-not-is_stream.true (c.is_stream.ensures tree (holds_shown it tree held)) in
    inr (read_taken letters P name taken ∙ ap (λ o. or_refused o NotFound) (found_taken letters may tree P stores (holds_shown it tree held).ordered.0 name taken ∙ there))

pub returns-in-Ok-find_stream-clause-answer : goal.returns-in-Ok-find_stream-clause-answer
returns-in-Ok-find_stream-clause-answer g c tree held P stores may =
    let it = c.args.file.now in
    let letters = file_case_table it in
    let name = c.args.name.now in
    let plain = plain_stream_name name in
    let text = c.as_str-path.result.now in
    let taken : may_name letters name ≡ Ok tt = ap (λ l. may_name l name) (sym c.letters.ensures) ∙ c.in-Ok.ensures.answer.0 in
    let one : names_in text ≡ Some (plain ∷ []) = ap names_in (c.as_str-path.ensures ∙ c.in-Ok.ensures.answer.1) ∙ taken_path letters name taken c.utf8.name in
    let (bytes, answer, has) = (c.in-Ok-find_stream.ensures.bytes tree held).0 in
    let there : stream_at letters (objects tree.content) plain ≡ Some bytes = some_of letters tree text plain one bytes answer in
    (bytes, read_taken letters P name taken ∙ ap (λ o. or_refused o NotFound) (found_taken letters may tree P stores (holds_shown it tree held).ordered.0 name taken ∙ there), has)

pub returns-in-Err-find_stream-clause-answer : goal.returns-in-Err-find_stream-clause-answer
returns-in-Err-find_stream-clause-answer g c tree held P stores may =
    let it = c.args.file.now in
    let letters = file_case_table it in
    let name = c.args.name.now in
    let plain = plain_stream_name name in
    let text = c.as_str-path.result.now in
    let taken : may_name letters name ≡ Ok tt = ap (λ l. may_name l name) (sym c.letters.ensures) ∙ c.in-Ok.ensures.answer.0 in
    let one : names_in text ≡ Some (plain ∷ []) = ap names_in (c.as_str-path.ensures ∙ c.in-Ok.ensures.answer.1) ∙ taken_path letters name taken c.utf8.name in
    ⊎_elim
    (λ want. inl (⊎_elim (λ memory. subst (IsFaultOrInvalidInputIf ⊥) (sym memory) tt) (λ failed. subst (IsFaultOrInvalidInputIf ⊥) (sym failed.0) tt) want))
    (λ answer. absurd (refused_of letters tree text plain one c.is_stream.result c.in-Err-find_stream.error c.if-not-is_stream.false (c.is_stream.ensures tree (holds_shown it tree held)) answer))
    (c.in-Err-find_stream.ensures.bytes tree held).1
