use Rattle.std.proofs.Common.{◌≡◌, ◌∙◌, ◌∷◌, [], Bool, subst}
use Rattle.std.specs.Prelude.{◌↔◌, All, Contains, IsTrue}
use Rattle.cfb.specs.Views.{file_case_table, sound_of}
use Rattle.msi_spec.specs.Package.{objects}
use Rattle.msi_parts.specs.Judged.{is_in_place}
use Rattle.msi_parts.specs.Parts.{IsSoundIn}
use Rattle.msi_schema.specs.Headings.{headings_in}
use Rattle.msi_stored.proofs.StoredLaws.{file_refl}
use Rattle.msi_soundness.proofs.Noted.{all_noted, all_rules, if_ok_then, listed_next, none_sound, told_next}
use Rattle.msi_soundness.specs.Defects.{rules_of_memory, AreDefects, ListsDefects, MeetsSoundnessRule}
use Rattle.msi_soundness.specs.declared.defect.Defect.{Defect}
use Rattle.msi_soundness.specs.declared.defect.Defect.TheVariants.{Container, Objects}
use Rattle.msi_soundness.proofs.checking.defects.Goals as goal

pub returns-in_ok-noted-in-Ok-clause-answer : goal.returns-in_ok-noted-in-Ok-clause-answer
returns-in_ok-noted-in-Ok-clause-answer g c tree held =
    let letters = file_case_table c.args.file.now in
    let sound = sound_of c.args.file.now in
    let it = c.args.parts.now in
    let K = MeetsSoundnessRule letters tree sound it in
    let found = c.in_ok-found.found.items in
    let next = c.in_ok-noted-in-Ok.field-0.items in
    let kept = c.in-Ok.kept in
    let rule = subst (λ ts. IsTrue kept ↔ All (λ o. IsTrue (is_in_place letters (headings_in ts) o)) (objects tree.content)) c.deref.ensures.value (c.in-Ok.ensures.answer tree held) in
    let memory = subst (λ (b : Bool). ListsDefects (MeetsSoundnessRule letters tree b it) rules_of_memory found) c.is_sound.ensures (c.in_ok-found.ensures.answer letters tree) in
    if_ok_then (ListsDefects K all_rules) (AreDefects letters tree sound it) c.with_rows.result
    (c.with_rows.ensures.answer tree held (Objects ∷ rules_of_memory)
    (told_next K rules_of_memory found next kept Objects c.in_ok-noted-in-Ok.ensures.listed rule memory))
    (all_noted letters tree sound it)

pub returns-in_ok-noted-in-Ok-clause-none : goal.returns-in_ok-noted-in-Ok-clause-none
returns-in_ok-noted-in-Ok-clause-none g c tree held may parts =
    let letters = file_case_table c.args.file.now in
    let sound = sound_of c.args.file.now in
    let it = c.args.parts.now in
    if_ok_then (AreDefects letters tree sound it) (λ all. (all ≡ []) ↔ IsSoundIn letters tree sound) c.with_rows.result (returns-in_ok-noted-in-Ok-clause-answer g c tree held)
    (none_sound letters tree sound it may parts)

pub returns-in_ok-noted-in-Ok-clause-unsound : goal.returns-in_ok-noted-in-Ok-clause-unsound
returns-in_ok-noted-in-Ok-clause-unsound g c broken =
    let found = c.in_ok-found.found.items in
    let next = c.in_ok-noted-in-Ok.field-0.items in
    let here : Contains found Container = c.in_ok-found.ensures.unsound (c.is_sound.ensures ∙ broken) in
    let there = listed_next found next c.in-Ok.kept Objects Container c.in_ok-noted-in-Ok.ensures.listed here in
    if_ok_then (λ all. (defect : Defect) → Contains next defect → Contains all defect) (λ all. Contains all Container) c.with_rows.result c.with_rows.ensures.longer
    (λ all longer. longer Container there)

pub returns-in_err-noted-in-Ok-clause-only_reads : goal.returns-in_err-noted-in-Ok-clause-only_reads
returns-in_err-noted-in-Ok-clause-only_reads g c = file_refl c.args.file.now

pub returns-in-Err-clause-only_reads : goal.returns-in-Err-clause-only_reads
returns-in-Err-clause-only_reads g c = file_refl c.args.file.now

pub returns-in_err-found-clause-only_reads : goal.returns-in_err-found-clause-only_reads
returns-in_err-found-clause-only_reads g c = file_refl c.args.file.now
