use Rattle.std.proofs.Common.{◌≡◌, ◌∙◌, ap, ap₂, sym, true, false}
use Rattle.std.specs.Prelude.{is_some}
use Rattle.cfb.proofs.Holding.{holds_shown}
use Rattle.cfb.specs.Views.{file_case_table, said_at}
use Rattle.cfb_spec.specs.TreeRules.{is_stream}
use Rattle.cfb_tree.specs.CaseTableViews.{case_table_of}
use Rattle.cfb_tree.specs.Objects.{is_same_name}
use Rattle.msi_spec.specs.Package.{summary_name}
use Rattle.msi_spec.specs.Streams.{signature_name}
use Rattle.msi.proofs.Found.{signature_path}
use Rattle.msi_streams.proofs.Naming.{signature_chars, summary_chars}
use Rattle.msi.proofs.Owned.{none_found, signature_free, signature_own, stream_found}
use Rattle.msi.proofs.Taken.{said_is}
use Rattle.msi.proofs.reading.has_digital_signature.Goals as goal

pub returns-then-is_same_name : goal.returns-then-is_same_name
returns-then-is_same_name g c tree held P stores may =
    let letters = file_case_table c.args.file.now in
    let same : is_same_name letters summary_name signature_name ≡ true =
    ap (λ l. is_same_name l summary_name signature_name) (sym c.letters.ensures)
    ∙ ap₂ (is_same_name (case_table_of c.letters.result.now)) (sym summary_chars) (sym signature_chars) ∙ sym c.is_same_name.ensures ∙ c.if-is_same_name.true in
    ap is_some (sym (none_found letters may P tree signature_name stores (signature_own letters may P same)))

pub returns : goal.returns
returns g c tree held P stores may =
    let letters = file_case_table c.args.file.now in
    let shows = holds_shown c.args.file.now tree held in
    let other : is_same_name letters summary_name signature_name ≡ false =
    ap (λ l. is_same_name l summary_name signature_name) (sym c.letters.ensures)
    ∙ ap₂ (is_same_name (case_table_of c.letters.result.now)) (sym summary_chars) (sym signature_chars) ∙ sym c.is_same_name.ensures ∙ c.if-is_same_name.false in
    said_is letters tree signature_name c.is_stream.result (c.is_stream.ensures tree shows ∙ ap (said_at letters tree is_stream) signature_path)
    ∙ ap is_some (sym (stream_found letters may P signature_name (signature_free letters may P other) tree stores shows.ordered.0))
