use Rattle.std.proofs.Common.{◌≡◌, ◌∷◌, List, Err, rules, subst}
use Rattle.std.specs.Prelude.{◌↔◌, Contains, IfOk, IsTrue}
use Rattle.cfb.specs.Views.{file_case_table, sound_of}
use Rattle.msi_parts.specs.Judged.{heading_named}
use Rattle.msi_schema.specs.Headings.{headings_in}
use Rattle.msi_tables.specs.Schema.{tables_name}
use Rattle.msi_soundness.proofs.Noted.{if_ok_then, listed_next, told_next}
use Rattle.msi_soundness.proofs.Steps.{cause_then, memory_exit, rules_later}
use Rattle.msi_soundness.specs.Counting.{IsUnlistedAt}
use Rattle.msi_soundness.specs.Defects.{ListsDefects, MeetsSoundnessRule}
use Rattle.msi_soundness.specs.declared.defect.Defect.{Defect}
use Rattle.msi_soundness.specs.declared.defect.Defect.TheVariants.{Counts, ListedSystemTables}
use Rattle.msi_stored.proofs.StoredLaws.{file_then}
use Rattle.msi_soundness.proofs.checking.with_rows.Goals as goal

pub returns-in_ok-noted-in-Ok-clause-answer : goal.returns-in_ok-noted-in-Ok-clause-answer
returns-in_ok-noted-in-Ok-clause-answer g c tree held asked before =
    let letters = file_case_table c.args.file.now in
    let it = c.args.parts.now in
    let K = MeetsSoundnessRule letters tree (sound_of c.args.file.now) it in
    let found = c.args.found.items in
    let next = c.in_ok-noted-in-Ok.field-0.items in
    let kept = c.in-Ok.kept in
    let rule = subst (λ ts. IsTrue kept ↔ IsUnlistedAt letters tree it.pool.pool (heading_named (headings_in ts) tables_name)) c.deref.ensures.value (c.in-Ok.ensures.answer tree held) in
    rules_later c.args.file.now c.is_unlisted.new.file it (λ K. (asked : List Defect) → ListsDefects K asked next → IfOk c.with_counts.result (λ all. ListsDefects K (Counts ∷ asked) all.items))
    c.in-Ok.ensures.only_reads c.with_counts.ensures.answer tree held (ListedSystemTables ∷ asked)
    (told_next K asked found next kept ListedSystemTables c.in_ok-noted-in-Ok.ensures.listed rule before)

pub returns-in_ok-noted-in-Ok-clause-longer : goal.returns-in_ok-noted-in-Ok-clause-longer
returns-in_ok-noted-in-Ok-clause-longer g c =
    let found = c.args.found.items in
    let next = c.in_ok-noted-in-Ok.field-0.items in
    let listed = c.in_ok-noted-in-Ok.ensures.listed in
    if_ok_then (λ all. (defect : Defect) → Contains next defect → Contains all defect) (λ all. (defect : Defect) → Contains found defect → Contains all defect) c.with_counts.result c.with_counts.ensures.longer
    (λ all longer defect has. longer defect (listed_next found next c.in-Ok.kept ListedSystemTables defect listed has))

pub returns-in_ok-noted-in-Ok-clause-only_reads : goal.returns-in_ok-noted-in-Ok-clause-only_reads
returns-in_ok-noted-in-Ok-clause-only_reads g c = file_then c.args.file.now c.is_unlisted.new.file c.with_counts.new.file c.in-Ok.ensures.only_reads c.with_counts.ensures.only_reads

pub returns-in_ok-noted-in-Ok-clause-cause : goal.returns-in_ok-noted-in-Ok-clause-cause
returns-in_ok-noted-in-Ok-clause-cause g c =
    cause_then c.args.file.now c.is_unlisted.new.file c.with_counts.new.file c.with_counts.result c.in-Ok.ensures.only_reads c.with_counts.ensures.cause

pub returns-in_err-noted-in-Ok-clause-cause : goal.returns-in_err-noted-in-Ok-clause-cause
returns-in_err-noted-in-Ok-clause-cause g c =
    let e = c.in_err-noted-in-Ok.field-0.0 in
    let is : c.from_residual.result ≡ Err e = search (rules, c.from_residual.ensures) in
    memory_exit c.args.file.now c.is_unlisted.new.file c.from_residual.result e is c.in_err-noted-in-Ok.ensures.errors
