use Rattle.std.proofs.Common.{◌∙◌, ap, subst, sym}
use Rattle.cfb.proofs.Holding.{holds_yet}
use Rattle.cfb.specs.Views.{file_case_table, mini_of}
use Rattle.cfb_fat.specs.Tables.{IsJustifiedBySectors}
use Rattle.cfb_mini.specs.Views.{allocator_of}
use Rattle.msi_spec.specs.Opening.{keeps_encoded_names}
use Rattle.msi_parts.specs.Held.{ArePartsOfTree}
use Rattle.msi_stored.proofs.StoredLaws.{file_cause, file_then}
use Rattle.msi_store.proofs.ShownTrees.{shown_of_held}
use Rattle.msi_stored.specs.Shown.{bytes_in}
use Rattle.msi.proofs.OpenedPackages.{if_err_then, judged_before, parts_shown}
use Rattle.msi.proofs.opening.judged_parts.Goals as goal

pub returns-in-Ok-clause-shown : goal.returns-in-Ok-clause-shown
returns-in-Ok-clause-shown g c tree shown may =
    let letters = file_case_table c.args.file.now in
    parts_shown letters (bytes_in c.args.file.now) tree c.in-Ok.parts c.parts_and_soundness.result (c.in-Ok.ensures.shown tree shown may) c.parts_and_soundness.ensures.parts c.parts_and_soundness.ensures.errors

pub returns-in-Ok-clause-judged : goal.returns-in-Ok-clause-judged
returns-in-Ok-clause-judged g c tree held may =
    let a = c.args.file.now in
    let b = c.read_parts.new.file in
    let rests = c.read_parts.ensures.only_reads in
    judged_before a b rests tree c.parts_and_soundness.result
    (c.parts_and_soundness.ensures.judged tree (holds_yet a b tree rests held) (ap keeps_encoded_names rests.letters ∙ may)
    (subst (λ l. ArePartsOfTree l tree c.in-Ok.parts) (sym rests.letters) (c.in-Ok.ensures.shown tree (shown_of_held a tree held) may)))

pub returns-in-Ok-clause-only_reads : goal.returns-in-Ok-clause-only_reads
returns-in-Ok-clause-only_reads g c = file_then c.args.file.now c.read_parts.new.file c.parts_and_soundness.new.file c.read_parts.ensures.only_reads c.parts_and_soundness.ensures.only_reads

pub returns-in-Ok-clause-cause : goal.returns-in-Ok-clause-cause
returns-in-Ok-clause-cause g c =
    let a = c.args.file.now in
    let b = c.read_parts.new.file in
    let d = c.parts_and_soundness.new.file in
    if_err_then (IsJustifiedBySectors (allocator_of (mini_of b)) (allocator_of (mini_of d))) (IsJustifiedBySectors (allocator_of (mini_of a)) (allocator_of (mini_of d))) c.parts_and_soundness.result c.parts_and_soundness.ensures.cause
    (λ e cause. file_cause a b d e c.read_parts.ensures.only_reads cause)
