-- What a call that may change a live file's tree does.
use Rattle.std.specs.Prelude.{◌≡◌, ◌⊎◌, true, Option, Some, Result, IfErr, OnErr, OnOk}
use Rattle.cfb_entries.specs.Rules.{answer_at}
use Rattle.cfb_fat.specs.Tables.{has_failed_here}
use Rattle.cfb_spec.specs.TreeRules.{done, refused, tree_step, Call}
use Rattle.cfb_medium.specs.Calls.{IsFaultOrInvalidInputIf}
use Rattle.cfb_medium.specs.declared.error.Error.{Error}
use Rattle.cfb_medium.specs.declared.error.Error.TheVariants.{Full}
use Rattle.cfb_medium.specs.declared.medium.ReadMedium.{Ghosts}
use Rattle.cfb_mini.specs.Changing.{KeepsOwnership}
use Rattle.cfb_mini.specs.Views.{allocator_of}
use Rattle.cfb_mini.specs.declared.mini_allocator.MiniAllocator.{MiniAllocator}
use Rattle.cfb_tree.specs.Names.{CaseTable}
use Rattle.cfb_tree.specs.Paths.{Path}
use Rattle.cfb_tree.specs.Tree.{Tree}
use Rattle.cfb_ownership.specs.Owners.{Owners}
use Rattle.cfb_tree_edits.specs.Live.{LiveFileMeansTree}
use Rattle.cfb_tree_edits.specs.Orphans.{StaysTidy}

-- a fault, or want of a number for an entry or a sector
abbrev pub IsFaultOrFull : Error → Type 0
IsFaultOrFull e = IsFaultOrInvalidInputIf ⊥ e ⊎ (e ≡ Full)

module _ {F : Type 0} {g : Ghosts F} where
  -- the rules answer that the call at the path is done, and the file means the tree that they give; no sector and no mini sector is
  -- in use without an owner that wasn't so before
  pub record LiveCallIsDone (letters : CaseTable) (path : Option Path) (call : Path → Call) (tree : Tree) (old new : MiniAllocator F g) (who : Owners) : Type 0 where
    pub names : Path
    pub at_path : path ≡ Some names
    pub accepted : (tree_step letters tree (call names)).1 ≡ done
    pub means : LiveFileMeansTree letters new (tree_step letters tree (call names)).0
    pub strays : StaysTidy old new who means.who

  -- Of a file that means a tree: the call at the path is done by the rules, or refused just as these refuse it, and then nothing is
  -- changed; else a fault came between. After another error nothing is changed, or the file has failed.
  pub record FollowsLiveTreeRules {T : Type 0} (letters : CaseTable) (path : Option Path) (call : Path → Call) (result : Result T Error) (old new : MiniAllocator F g) : Type 0 where
    pub done : OnOk result ((tree : Tree) → (m : LiveFileMeansTree letters old tree) → LiveCallIsDone letters path call tree old new m.who)
    pub refused : IfErr result (λ e. (tree : Tree) → LiveFileMeansTree letters old tree → IsFaultOrFull e ⊎ ((answer_at letters tree call path ≡ refused e) × KeepsOwnership old new))
    pub rests : OnErr result ((has_failed_here (allocator_of new) ≡ true) ⊎ KeepsOwnership old new)
