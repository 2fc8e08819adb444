use Rattle.std.proofs.Common.{◌∷◌, subst}
use Rattle.std.specs.Prelude.{◌↔◌, Contains, IsTrue}
use Rattle.cfb.specs.Views.{file_case_table, sound_of}
use Rattle.msi_schema.specs.Headings.{headings_in}
use Rattle.msi_soundness.proofs.Noted.{if_noted, listed_next, told_next}
use Rattle.msi_soundness.proofs.Steps.{memory_cause}
use Rattle.msi_soundness.specs.Counting.{AreCountedAt}
use Rattle.msi_soundness.specs.Defects.{ListsDefects, MeetsSoundnessRule}
use Rattle.msi_soundness.specs.declared.defect.Defect.{Defect}
use Rattle.msi_soundness.specs.declared.defect.Defect.TheVariants.{Counts}
use Rattle.msi_soundness.proofs.checking.with_counts.Goals as goal

pub returns-in-Ok-clause-answer : goal.returns-in-Ok-clause-answer
returns-in-Ok-clause-answer g c tree held asked before =
    let letters = file_case_table c.args.file.now in
    let it = c.args.parts.now in
    let K = MeetsSoundnessRule letters tree (sound_of c.args.file.now) it in
    let found = c.args.found.items in
    let kept = c.in-Ok.kept in
    let rule = subst (λ ts. IsTrue kept ↔ AreCountedAt letters tree it.pool.pool (headings_in ts)) c.deref.ensures.value (c.in-Ok.ensures.answer tree held) in
    if_noted (λ all. ListsDefects K (Counts ∷ asked) all) c.noted.result found kept Counts c.noted.ensures.listed
    (λ all is. told_next K asked found all kept Counts is rule before)

pub returns-in-Ok-clause-longer : goal.returns-in-Ok-clause-longer
returns-in-Ok-clause-longer g c =
    let found = c.args.found.items in
    if_noted (λ all. (defect : Defect) → Contains found defect → Contains all defect) c.noted.result found c.in-Ok.kept Counts c.noted.ensures.listed
    (λ all is defect has. listed_next found all c.in-Ok.kept Counts defect is has)

pub returns-in-Ok-clause-cause : goal.returns-in-Ok-clause-cause
returns-in-Ok-clause-cause g c = memory_cause c.args.file.now c.are_uses_counted.new.file c.noted.result c.noted.ensures.errors
