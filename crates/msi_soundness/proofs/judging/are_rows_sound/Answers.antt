use Rattle.std.proofs.Common.{◌∙◌, sym}
use Rattle.cfb.specs.Views.{file_case_table}
use Rattle.msi_parts.specs.Judged.{AreSoundRows}
use Rattle.msi_schema.specs.Headings.{headings_in}
use Rattle.msi_stored.proofs.Later.{later}
use Rattle.msi_stored.proofs.StoredLaws.{file_then}
use Rattle.msi_soundness.proofs.Counted.{sound_counted, sound_rows, sound_unlisted}
use Rattle.msi_soundness.proofs.Steps.{cause_then}
use Rattle.msi_soundness.proofs.Told.{Answers, answers_as, is_no}
use Rattle.msi_soundness.specs.Counting.{AreCountedAt}
use Rattle.msi_soundness.proofs.judging.are_rows_sound.Goals as goal

pub returns-in-Ok-true-clause-answer : goal.returns-in-Ok-true-clause-answer
returns-in-Ok-true-clause-answer g c tree held wide =
    let letters = file_case_table c.args.file.now in
    let pool = c.args.pool.now.pool in
    let hs = headings_in c.args.tables.now in
    let unlisted = (c.in-Ok-true.ensures.answer tree held).0 c.in-Ok-true.field-0-test in
    answers_as (AreCountedAt letters tree pool hs) (AreSoundRows letters tree pool hs)
    (λ counted. sound_rows letters tree pool hs wide unlisted counted, λ sound. sound_counted letters tree pool hs sound)
    c.are_uses_counted.result
    (later c.args.file.now c.is_unlisted.new.file (λ n t. Answers (AreCountedAt n t pool hs) c.are_uses_counted.result) c.in-Ok-true.ensures.only_reads c.are_uses_counted.ensures.answer tree held)

pub returns-in-Ok-true-clause-only_reads : goal.returns-in-Ok-true-clause-only_reads
returns-in-Ok-true-clause-only_reads g c = file_then c.args.file.now c.is_unlisted.new.file c.are_uses_counted.new.file c.in-Ok-true.ensures.only_reads c.are_uses_counted.ensures.only_reads

pub returns-in-Ok-true-clause-cause : goal.returns-in-Ok-true-clause-cause
returns-in-Ok-true-clause-cause g c =
    cause_then c.args.file.now c.is_unlisted.new.file c.are_uses_counted.new.file c.are_uses_counted.result c.in-Ok-true.ensures.only_reads c.are_uses_counted.ensures.cause

pub returns-in-Ok-false-clause-answer : goal.returns-in-Ok-false-clause-answer
returns-in-Ok-false-clause-answer g c tree held wide =
    let letters = file_case_table c.args.file.now in
    let pool = c.args.pool.now.pool in
    let hs = headings_in c.args.tables.now in
    is_no (AreSoundRows letters tree pool hs) (λ sound.
    let yes = (c.in-Ok-false.ensures.answer tree held).1 (sound_unlisted letters tree pool hs sound) in
    absurd (cc (sym yes ∙ c.in-Ok-false.field-0-test)))
