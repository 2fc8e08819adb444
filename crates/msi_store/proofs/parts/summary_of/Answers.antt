use Rattle.std.proofs.Common.{◌≡◌, ◌∙◌, ap, arith, inl, inr, option_map, subst}
use Rattle.std.specs.Prelude.{IfOk, chars}
use Rattle.cfb.specs.Views.{file_case_table, mini_of}
use Rattle.cfb_mini.specs.Views.{allocator_of}
use Rattle.msi_spec.specs.Opening.{summary_read}
use Rattle.msi_spec.specs.Package.{objects, stream_at, summary_name}
use Rattle.msi_props.specs.Props.{texts_give_back}
use Rattle.msi_texts.specs.Results.{ReturnsOrOutOfMemory}
use Rattle.msi_stored.specs.Shown.{bytes_in}
use Rattle.msi_store.proofs.PartsRead.{answer_cause, summary_chars, summary_found, summary_missing}
use Rattle.msi_store.proofs.Refusals.{summary_refuses}
use Rattle.msi_store.proofs.Told.{lost_part}
use Rattle.msi_store.proofs.ErrorKinds.{answer_kind, read_kind}
use Rattle.msi_store.proofs.parts.summary_of.Goals as goal

pub returns-in-Ok-Some-clause-shown : goal.returns-in-Ok-Some-clause-shown
returns-in-Ok-Some-clause-shown g c tree shown =
    let letters = file_case_table c.args.file.now in
    summary_found letters tree (bytes_in c.args.file.now) c.in-Ok-Some.bytes.items c.read.result
    (ap (stream_at letters (objects tree.content)) summary_chars ∙ c.in-Ok-Some.ensures.shown tree shown ∙ ap (option_map (λ bytes. bytes.items)) c.in-Ok-Some.field-0-is)
    (subst (λ bytes. ReturnsOrOutOfMemory (λ s. s.props) c.read.result (summary_read bytes)) c.deref.ensures.value c.read.ensures.read)
    (subst (λ bytes. IfOk c.read.result (λ s. s.whole ≡ texts_give_back bytes)) c.deref.ensures.value c.read.ensures.whole)

pub returns-in-Ok-Some-clause-cause : goal.returns-in-Ok-Some-clause-cause
returns-in-Ok-Some-clause-cause g c =
    let bytes = c.deref.result.now in
    answer_cause (allocator_of (mini_of c.args.file.now)) (allocator_of (mini_of c.stream_bytes.new.file)) (λ s. s.props) c.read.result (summary_read bytes) (summary_refuses bytes) c.read.ensures.read

pub returns-in-Ok-None-clause-shown : goal.returns-in-Ok-None-clause-shown
returns-in-Ok-None-clause-shown g c tree shown =
    let letters = file_case_table c.args.file.now in
    inr (summary_missing letters tree (ap (stream_at letters (objects tree.content)) summary_chars ∙ c.in-Ok-None.ensures.shown tree shown ∙ ap (option_map (λ bytes. bytes.items)) c.in-Ok-None.field-0-is))

pub returns-in-Err-clause-shown : goal.returns-in-Err-clause-shown
returns-in-Err-clause-shown g c tree shown =
    inl (lost_part (file_case_table c.args.file.now) (bytes_in c.args.file.now) (chars summary_name) (0, omega arith, summary_chars) c.in-Err.error (c.in-Err.ensures.shown tree shown))

pub returns-in-Ok-Some-clause-errors : goal.returns-in-Ok-Some-clause-errors
returns-in-Ok-Some-clause-errors g c = let bytes = c.deref.result.now in answer_kind (λ s. s.props) c.read.result (summary_read bytes) (summary_refuses bytes) c.read.ensures.read

pub returns-in-Err-clause-errors : goal.returns-in-Err-clause-errors
returns-in-Err-clause-errors g c = read_kind c.in-Err.error c.in-Err.ensures.errors
