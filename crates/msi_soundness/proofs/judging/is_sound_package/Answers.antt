use Rattle.std.proofs.Common.{◌≡◌, ◌∙◌, sym, subst, true}
use Rattle.std.specs.Prelude.{All, IsTrue}
use Rattle.cfb.specs.Views.{file_case_table, sound_of}
use Rattle.msi_spec.specs.Package.{objects}
use Rattle.msi_parts.specs.Judged.{AreSoundRows, is_in_place}
use Rattle.msi_parts.specs.Parts.{IsSoundIn}
use Rattle.msi_schema.specs.Headings.{headings_in}
use Rattle.msi_stored.proofs.StoredLaws.{file_refl}
use Rattle.msi_soundness.proofs.Told.{Answers, InPlace, SoundRows, answers_as, by_memory, by_place, by_rows, is_no, wide_held}
use Rattle.msi_soundness.proofs.judging.is_sound_package.Goals as goal

pub returns-then-not-is_sound-clause-only_reads : goal.returns-then-not-is_sound-clause-only_reads
returns-then-not-is_sound-clause-only_reads g c = file_refl c.args.file.now

pub returns-then-not-are_well-clause-answer : goal.returns-then-not-are_well-clause-answer
returns-then-not-are_well-clause-answer g c tree held may parts =
    let letters = file_case_table c.args.file.now in
    let sound = sound_of c.args.file.now in
    is_no (IsSoundIn letters tree sound) (by_memory letters tree c.args.parts.now may parts sound (λ well.
    let yes = c.are_well.ensures.1 well in absurd (cc (sym yes ∙ c.if-not-are_well.true))))

pub returns-then-not-are_well-clause-only_reads : goal.returns-then-not-are_well-clause-only_reads
returns-then-not-are_well-clause-only_reads g c = file_refl c.args.file.now

pub returns-in-Ok-true-clause-answer : goal.returns-in-Ok-true-clause-answer
returns-in-Ok-true-clause-answer g c tree held may parts =
    let letters = file_case_table c.args.file.now in
    let sound = sound_of c.args.file.now in
    let it = c.args.parts.now in
    let pool = it.pool.pool in
    let is : sound ≡ true = sym c.is_sound.ensures ∙ c.if-not-is_sound.false in
    let well = c.are_well.ensures.0 c.if-not-are_well.false in
    let place : InPlace letters tree it may parts =
    subst (λ ts. All (λ o. IsTrue (is_in_place letters (headings_in ts) o)) (objects tree.content)) c.deref.ensures.value ((c.in-Ok-true.ensures.answer tree held).0 c.in-Ok-true.field-0-test) in
    let wide = subst (λ ts. All (λ h. h.long ≡ pool.long) (headings_in ts)) (sym c.deref-in-Ok-true.ensures.value) (wide_held letters tree it may parts) in
    answers_as (SoundRows letters tree it may parts) (IsSoundIn letters tree sound) (by_rows letters tree it may parts sound is well place) c.are_rows_sound.result
    (subst (λ ts. Answers (AreSoundRows letters tree pool (headings_in ts)) c.are_rows_sound.result) c.deref-in-Ok-true.ensures.value (c.are_rows_sound.ensures.answer tree held wide))

pub returns-in-Ok-false-clause-answer : goal.returns-in-Ok-false-clause-answer
returns-in-Ok-false-clause-answer g c tree held may parts =
    let letters = file_case_table c.args.file.now in
    let sound = sound_of c.args.file.now in
    is_no (IsSoundIn letters tree sound) (by_place letters tree c.args.parts.now may parts sound (λ place.
    let yes = (c.in-Ok-false.ensures.answer tree held).1
    (subst (λ ts. All (λ o. IsTrue (is_in_place letters (headings_in ts) o)) (objects tree.content)) (sym c.deref.ensures.value) place) in
    absurd (cc (sym yes ∙ c.in-Ok-false.field-0-test))))

pub returns-in-Ok-false-clause-only_reads : goal.returns-in-Ok-false-clause-only_reads
returns-in-Ok-false-clause-only_reads g c = file_refl c.args.file.now

pub returns-in-Err-clause-only_reads : goal.returns-in-Err-clause-only_reads
returns-in-Err-clause-only_reads g c = file_refl c.args.file.now
