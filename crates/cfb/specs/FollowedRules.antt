-- Which tree a `CompoundFile` means, and what a call does that may change it.
use Rattle.std.specs.Prelude.{◌≡◌, ◌⊎◌, ℕ, List, true, false, Option, Some, Result, IfErr, IsErrOf, OnErr, OnOk}
use Rattle.cfb_copying.specs.Copied.{HasRootName, HoldsCopy}
use Rattle.cfb_entries.specs.Rules.{answer_at}
use Rattle.cfb_directory.specs.Views.{entries_held}
use Rattle.cfb_fat.specs.Tables.{has_failed_here, version_of, HasEnds, HeaderCountsTables}
use Rattle.cfb_tree_edits.specs.LiveTreeRules.{IsFaultOrFull}
use Rattle.cfb_tree_edits.specs.Live as live
use Rattle.cfb_tree_edits.specs.Orphans.{IsStrictLive, StaysTidy}
use Rattle.cfb_spec.specs.Means.{IsStrictlyOpenable}
use Rattle.cfb_spec.specs.TreeRules.{done, refused, tree_step, Call}
use Rattle.cfb_medium.specs.declared.error.Error.{Error}
use Rattle.cfb_medium.specs.declared.error.Error.TheVariants.{Failed, InvalidData}
use Rattle.cfb_medium.specs.declared.medium.ReadMedium.{Ghosts}
use Rattle.cfb_mini.specs.Changing.{KeepsOwnership}
use Rattle.cfb_mini.specs.Views.{allocator_of, directory_of}
use Rattle.cfb_ownership.specs.Owners.{Owners}
use Rattle.cfb_tree.specs.Paths.{Path}
use Rattle.cfb_tree.specs.Tree.{Tree}
use Rattle.cfb.specs.Views.{file_case_table, mini_of, most_ahead_of, sound_of, validation_of, HoldsLinks}
use Rattle.cfb.specs.declared.compound_file.CompoundFile.{CompoundFile}

module _ {F : Type 0} {g : Ghosts F} where
  -- THE FILE MEANS THE TREE: it is sound, nothing has failed, memory is that of the bytes, and these mean the tree; links that are known
  -- to be a stream's are so ([MS-CFB] 2)
  pub record FileMeansTree (it : CompoundFile F g) (tree : Tree) : Type 0 where
    pub sound : sound_of it ≡ true
    pub live : live.LiveFileMeansTree (file_case_table it) (mini_of it) tree
    pub held : HoldsLinks it

  -- the call left file and memory as they were
  pub record FileKeeps (old new : CompoundFile F g) : Type 0 where
    pub mini : KeepsOwnership (mini_of old) (mini_of new)
    pub letters : file_case_table new ≡ file_case_table old
    pub sound : sound_of new ≡ sound_of old
    pub held : HoldsLinks old → HoldsLinks new

  -- what a strict reader asks of the file beside its tree: the header counts the sectors of all tables, file and DIFAT end as they
  -- must, the root has its name, and colours are right ([MS-CFB] 2.2 to 2.6)
  pub record IsStrictFile (it : CompoundFile F g) : Type 0 where
    pub told : HeaderCountsTables (allocator_of (mini_of it))
    pub ends : HasEnds (allocator_of (mini_of it))
    pub live : IsStrictLive (mini_of it)

  -- of this a copy needs one thing of the file: its root has the name that every root has ([MS-CFB] 2.6.2)
  abbrev pub HasNamedRoot : CompoundFile F g → Type 0
  HasNamedRoot it = HasRootName (entries_held (directory_of (mini_of it)))

  -- THE BYTES ARE A COPY of the file, which means this tree; a strict reader takes them where the root has its name
  pub record CopiesFile (it : CompoundFile F g) (tree : Tree) (bytes : List ℕ) : Type 0 where
    pub holds : HoldsCopy (version_of (allocator_of (mini_of it))) (file_case_table it) bytes tree
    pub strict : HasNamedRoot it → IsStrictlyOpenable (file_case_table it) bytes

  -- the rules answer that the call at the path is done, and the file means the tree that they give; no sector and no mini sector is
  -- in use without an owner that wasn't so before, and a strict reader takes directory and mini FAT if it did
  pub record FileCallIsDone (path : Option Path) (call : Path → Call) (tree : Tree) (old new : CompoundFile F g) (who : Owners) : Type 0 where
    pub names : Path
    pub at_path : path ≡ Some names
    pub accepted : (tree_step (file_case_table old) tree (call names)).1 ≡ done
    pub means : FileMeansTree new (tree_step (file_case_table old) tree (call names)).0
    pub strays : StaysTidy (mini_of old) (mini_of new) who means.live.who

  -- One that has failed answers `Failed`. One that isn't sound answers `InvalidData`, and nothing is changed. Of a file that means a
  -- tree the call at the path is done by the rules, or refused just as these refuse it, and then nothing is changed; else a fault
  -- came between. After another error nothing is changed, or the file has failed.
  pub record FollowsTreeRules {T : Type 0} (path : Option Path) (call : Path → Call) (result : Result T Error) (old new : CompoundFile F g) : Type 0 where
    pub failed : has_failed_here (allocator_of (mini_of old)) ≡ true → IsErrOf result Failed
    pub unsound : has_failed_here (allocator_of (mini_of old)) ≡ false → sound_of old ≡ false → IsErrOf result InvalidData × FileKeeps old new
    pub done : OnOk result ((tree : Tree) → (m : FileMeansTree old tree) → FileCallIsDone path call tree old new m.live.who)
    pub refused : IfErr result (λ e. (tree : Tree) → FileMeansTree old tree → IsFaultOrFull e ⊎ ((answer_at (file_case_table old) tree call path ≡ refused e) × FileKeeps old new))
    pub rests : OnErr result ((has_failed_here (allocator_of (mini_of new)) ≡ true) ⊎ FileKeeps old new)
    pub seen : (file_case_table new ≡ file_case_table old) × (sound_of new ≡ sound_of old) × (validation_of new ≡ validation_of old)
    pub most : most_ahead_of new ≡ most_ahead_of old
