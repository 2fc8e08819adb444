use Rattle.std.proofs.Common.{◌≡◌, inl, true}
use Rattle.std.specs.Prelude.{◌⊎◌, Err}
use Rattle.cfb.specs.Views.{file_case_table, mini_of}
use Rattle.cfb_fat.specs.Tables.{IsJustifiedBySectors}
use Rattle.cfb_medium.specs.Calls.{IsFaultOrInvalidInputIf}
use Rattle.cfb_mini.specs.Views.{allocator_of}
use Rattle.cfb_tree.specs.Tree.{Tree}
use Rattle.msi_spec.specs.Opening.{keeps_encoded_names, opened}
use Rattle.msi_stored.proofs.StoredLaws.{file_cause, file_then}
use Rattle.msi_stored.specs.Shown.{StoreShowsTree, IsLostPart, bytes_in}
use Rattle.msi.proofs.FoundDefects.{checked_before}
use Rattle.msi.proofs.OpenedPackages.{if_err_then}
use Rattle.msi.proofs.checking.part_defects.Goals as goal

pub returns-in-Ok-clause-checked : goal.returns-in-Ok-clause-checked
returns-in-Ok-clause-checked g c =
    let is = c.defects.ensures in
    checked_before c.args.file.now c.read_parts.new.file c.read_parts.ensures.only_reads c.in-Ok.parts c.in-Ok.ensures.shown c.defects.result is.answer is.none is.unsound

pub returns-in-Ok-clause-refused_only_if : goal.returns-in-Ok-clause-refused_only_if
returns-in-Ok-clause-refused_only_if g c =
    let a = c.args.file.now in
    if_err_then (IsFaultOrInvalidInputIf ⊥)
    (λ e. (tree : Tree) → StoreShowsTree a tree → keeps_encoded_names (file_case_table a) ≡ true → IsLostPart (file_case_table a) (bytes_in a) e ⊎ (opened (file_case_table a) tree ≡ Err e))
    c.defects.result c.defects.ensures.errors (λ e fault tree shown may. inl (inl fault))

pub returns-in-Ok-clause-only_reads : goal.returns-in-Ok-clause-only_reads
returns-in-Ok-clause-only_reads g c = file_then c.args.file.now c.read_parts.new.file c.defects.new.file c.read_parts.ensures.only_reads c.defects.ensures.only_reads

pub returns-in-Ok-clause-cause : goal.returns-in-Ok-clause-cause
returns-in-Ok-clause-cause g c =
    let a = c.args.file.now in
    let b = c.read_parts.new.file in
    let d = c.defects.new.file in
    if_err_then (IsJustifiedBySectors (allocator_of (mini_of b)) (allocator_of (mini_of d))) (IsJustifiedBySectors (allocator_of (mini_of a)) (allocator_of (mini_of d))) c.defects.result c.defects.ensures.cause
    (λ e cause. file_cause a b d e c.read_parts.ensures.only_reads cause)
