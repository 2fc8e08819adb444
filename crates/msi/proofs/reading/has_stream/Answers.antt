use Rattle.std.proofs.Common.{◌≡◌, ◌∙◌, [], ◌∷◌, ap, refl, sym, Some}
use Rattle.std.specs.Prelude.{Ok, is_some}
use Rattle.cfb.proofs.Holding.{holds_shown}
use Rattle.cfb.specs.Views.{file_case_table, said_at}
use Rattle.cfb_entries.specs.Rules.{names_in}
use Rattle.cfb_spec.specs.TreeRules.{is_stream}
use Rattle.msi_spec.specs.Package.{stream_at}
use Rattle.msi_spec.specs.Streams.{may_name, plain_stream_name}
use Rattle.msi.proofs.Found.{found_taken}
use Rattle.msi.proofs.Taken.{said_is, there_taken}
use Rattle.msi_streams.proofs.Taken.{taken_path}
use Rattle.msi.proofs.reading.has_stream.Goals as goal

pub returns-in-Ok : goal.returns-in-Ok
returns-in-Ok g c tree held P stores may =
    let letters = file_case_table c.args.file.now in
    let name = c.args.name.now in
    let plain = plain_stream_name name in
    let shows = holds_shown c.args.file.now tree held in
    let taken : may_name letters name ≡ Ok tt = ap (λ l. may_name l name) (sym c.letters.ensures) ∙ c.in-Ok.ensures.answer.0 in
    let path : names_in c.as_str.result.now ≡ Some (plain ∷ []) = ap names_in (c.as_str.ensures ∙ c.in-Ok.ensures.answer.1) ∙ taken_path letters name taken c.utf8.name in
    said_is letters tree plain c.is_stream.result (c.is_stream.ensures tree shows ∙ ap (said_at letters tree is_stream) path)
    ∙ ap is_some (sym (found_taken letters may tree P stores shows.ordered.0 name taken))
    ∙ sym (there_taken letters P name (stream_at letters P.streams plain) taken refl)
