use Rattle.std.proofs.Common.{◌∙◌, ap, inl, inr, option_map, subst}
use Rattle.cfb.specs.Views.{file_case_table, mini_of}
use Rattle.cfb_mini.specs.Views.{allocator_of}
use Rattle.msi_spec.specs.Package.{objects, stream_at}
use Rattle.msi_store.proofs.PartsRead.{summary_chars}
use Rattle.msi_texts.specs.Results.{ReturnsOrOutOfMemory}
use Rattle.reread_texts.specs.Sets.{set_reread}
use Rattle.reread_texts.specs.Told.{told_in_utf8}
use Rattle.msi_reread.proofs.PartsReread.{read_as, set_cause, summary_found, summary_missing}
use Rattle.msi_reread.proofs.reading.summary_in.Goals as goal

pub returns-in-Ok-Some-clause-answer : goal.returns-in-Ok-Some-clause-answer
returns-in-Ok-Some-clause-answer g c tree held =
    let letters = file_case_table c.args.file.now in
    let page = c.args.page in
    let bytes = c.in-Ok-Some.bytes.items in
    read_as (λ it. (it.bytes.items, it.lacking.items, it.sections)) c.summary_of.result (set_reread page (told_in_utf8 bytes))
    (subst (λ b. ReturnsOrOutOfMemory (λ it. (it.bytes.items, it.lacking.items, it.sections)) c.summary_of.result (set_reread page (told_in_utf8 b))) c.deref.ensures.value c.summary_of.ensures) _
    (summary_found letters page tree bytes (ap (stream_at letters (objects tree.content)) summary_chars ∙ c.in-Ok-Some.ensures.answer tree held ∙ ap (option_map (λ bytes. bytes.items)) c.in-Ok-Some.field-0-is))

pub returns-in-Ok-Some-clause-cause : goal.returns-in-Ok-Some-clause-cause
returns-in-Ok-Some-clause-cause g c =
    set_cause (allocator_of (mini_of c.args.file.now)) (allocator_of (mini_of c.stream_bytes.new.file)) c.args.page (told_in_utf8 c.deref.result.now) (λ it. (it.bytes.items, it.lacking.items, it.sections)) c.summary_of.result
    c.summary_of.ensures

pub returns-in-Ok-None-clause-answer : goal.returns-in-Ok-None-clause-answer
returns-in-Ok-None-clause-answer g c tree held =
    let letters = file_case_table c.args.file.now in
    inr (summary_missing letters c.args.page tree (ap (stream_at letters (objects tree.content)) summary_chars ∙ c.in-Ok-None.ensures.answer tree held ∙ ap (option_map (λ bytes. bytes.items)) c.in-Ok-None.field-0-is))

pub returns-in-Err-clause-answer : goal.returns-in-Err-clause-answer
returns-in-Err-clause-answer g c tree held = inl (c.in-Err.ensures.answer tree held)
