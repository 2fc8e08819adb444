-- The steps of the judge over a file that is only read.
use Rattle.std.proofs.Common.{◌≡◌, ℕ, Bool, List, sym, subst}
use Rattle.std.specs.Prelude.{Err, IfErr, Ok, Result}
use Rattle.std.specs.Rc.{rc_value}
use Rattle.std.specs.declared.alloc.Global.{Global}
use Rattle.std.specs.declared.rc.Rc.{Rc}
use Rattle.cfb.specs.Streams.{FileHoldsTree}
use Rattle.cfb.specs.Views.{file_case_table, mini_of, sound_of, OnlyReadsFile}
use Rattle.cfb.specs.declared.compound_file.CompoundFile.{CompoundFile}
use Rattle.cfb_fat.specs.Tables.{IsJustifiedBySectors}
use Rattle.cfb_medium.specs.declared.error.Error.{Error}
use Rattle.cfb_medium.specs.declared.error.Error.TheVariants.{Memory}
use Rattle.cfb_medium.specs.declared.medium.ReadMedium.{Ghosts}
use Rattle.cfb_mini.specs.Views.{allocator_of}
use Rattle.cfb_tree.specs.Tree.{Tree}
use Rattle.msi_parts.specs.declared.parts.PackageParts.{PackageParts}
use Rattle.msi_stored.proofs.Later.{later}
use Rattle.msi_stored.proofs.StoredLaws.{file_cause}
use Rattle.msi_tables.specs.Held.{heading_of}
use Rattle.msi_tables.specs.declared.table.Table.{Table as HeldTable}
use Rattle.msi_soundness.specs.Counting.{RefcountsTaken}
use Rattle.msi_soundness.specs.Defects.{MeetsSoundnessRule}
use Rattle.msi_soundness.specs.declared.defect.Defect.{Defect}

module _ {F : Type 0} {g : Ghosts F} where
  -- an error of a later step has its cause since the first
  pub cause_then : {X : Type 0} → (a b c : CompoundFile F g) (r : Result X Error) → OnlyReadsFile a b → IfErr r (IsJustifiedBySectors (allocator_of (mini_of b)) (allocator_of (mini_of c)))
      → IfErr r (IsJustifiedBySectors (allocator_of (mini_of a)) (allocator_of (mini_of c)))
  cause_then a b c (Ok is) rests cause = tt
  cause_then a b c (Err e) rests cause = file_cause a b c e rests cause

  -- want of memory needs no cause in the file
  no_cause : (a b : CompoundFile F g) (e : Error) → e ≡ Memory → IsJustifiedBySectors (allocator_of (mini_of a)) (allocator_of (mini_of b)) e
  no_cause a b e memory = λ start from. record { device = λ d. absurd (cc); earlier = λ d. absurd (cc) }

  pub memory_exit : {X : Type 0} → (a b : CompoundFile F g) (r : Result X Error) (e : Error) → r ≡ Err e → e ≡ Memory → IfErr r (IsJustifiedBySectors (allocator_of (mini_of a)) (allocator_of (mini_of b)))
  memory_exit a b r e is memory = subst (λ r. IfErr r (IsJustifiedBySectors (allocator_of (mini_of a)) (allocator_of (mini_of b)))) (sym is) (no_cause a b e memory)

  pub memory_cause : {X : Type 0} → (a b : CompoundFile F g) (r : Result X Error) → IfErr r (λ e. e ≡ Memory) → IfErr r (IsJustifiedBySectors (allocator_of (mini_of a)) (allocator_of (mini_of b)))
  memory_cause a b (Ok all) memory = tt
  memory_cause a b (Err e) memory = no_cause a b e memory

  -- what taking the uses of a table tells, of the file before
  pub takes_so : (a b : CompoundFile F g) → OnlyReadsFile a b → (held : HeldTable) (table : Rc HeldTable Global) → held ≡ rc_value table → (slice left new : List ℕ) → slice ≡ left
      → (is answer : Bool) → is ≡ answer → ((tree : Tree) → FileHoldsTree b tree → RefcountsTaken (file_case_table b) tree (heading_of held) slice new is)
      → (tree : Tree) → FileHoldsTree a tree → RefcountsTaken (file_case_table a) tree (heading_of (rc_value table)) left new answer
  takes_so a b rests held table same slice left new whole is answer test told = later a b (λ n t. RefcountsTaken n t (heading_of (rc_value table)) left new answer) rests
      (λ tree holds. subst (RefcountsTaken (file_case_table b) tree (heading_of (rc_value table)) left new) test
      (subst (λ l. RefcountsTaken (file_case_table b) tree (heading_of (rc_value table)) l new is) whole
      (subst (λ (t : HeldTable). RefcountsTaken (file_case_table b) tree (heading_of t) slice new is) same (told tree holds))))

  -- what is told of the rules of the file after it was read is so of the file before
  pub rules_later : (a b : CompoundFile F g) (it : PackageParts) (R : (Defect → Type 0) → Type 0) → OnlyReadsFile a b
      → ((tree : Tree) → FileHoldsTree b tree → R (MeetsSoundnessRule (file_case_table b) tree (sound_of b) it)) → (tree : Tree) → FileHoldsTree a tree → R (MeetsSoundnessRule (file_case_table a) tree (sound_of a) it)
  rules_later a b it R rests told tree held = subst (λ s. R (MeetsSoundnessRule (file_case_table a) tree s it)) rests.sound (later a b (λ n t. R (MeetsSoundnessRule n t (sound_of b) it)) rests told tree held)
