-- A sound package in a file that is changed, and what a call that changes it does.
use Rattle.std.specs.Prelude.{◌≡◌, ◌⊎◌, true, false, Result, Err, Ok, IfErr, IsErrOf, OnErr, OnOk}
use Rattle.cfb.specs.FollowedRules.{FileMeansTree}
use Rattle.cfb.specs.Putting.{KeepsMeant}
use Rattle.cfb.specs.Views.{file_case_table, mini_of, sound_of, validation_of}
use Rattle.cfb.specs.declared.compound_file.CompoundFile.{CompoundFile}
use Rattle.cfb_fat.specs.Tables.{has_failed_here}
use Rattle.cfb_tree_edits.specs.LiveTreeRules.{IsFaultOrFull}
use Rattle.cfb_medium.specs.declared.error.Error.{Error}
use Rattle.cfb_medium.specs.declared.error.Error.TheVariants.{Failed, InvalidData}
use Rattle.cfb_medium.specs.declared.medium.ReadMedium.{Ghosts}
use Rattle.cfb_mini.specs.Views.{allocator_of}
use Rattle.cfb_tree.specs.Names.{CaseTable}
use Rattle.cfb_tree.specs.Tree.{Tree}
use Rattle.msi_spec.specs.Opening.{keeps_encoded_names}
use Rattle.msi_spec.specs.Package.{PackageContent, data_name, objects, pool_name, stream_at, summary_name, table_stream}
use Rattle.msi_spec.specs.SoundParts.{HasSoundNames}
use Rattle.msi_spec.specs.Split.{TreeStoresRest}
use Rattle.msi_spec.specs.Uses.{RefcountsAreExact}
use Rattle.msi_pool.specs.PoolKept.{AreFreeEmpty}

-- THE TREE STORES A SOUND PACKAGE, but for pool and summary, which memory may have ahead of their streams
pub record StoresSoundPackage (letters : CaseTable) (tree : Tree) (P : PackageContent) : Type 0 where
  pub usable : keeps_encoded_names letters ≡ true
  pub stores : TreeStoresRest letters tree P
  pub counted : RefcountsAreExact P.pool P.tables
  pub free : AreFreeEmpty P.pool.places
  pub named : HasSoundNames letters P

-- the streams of pool and summary stay as they were
pub record KeepsParts (letters : CaseTable) (old new : Tree) : Type 0 where
  pub pool : table_stream letters (objects new.content) pool_name ≡ table_stream letters (objects old.content) pool_name
  pub pool_data : table_stream letters (objects new.content) data_name ≡ table_stream letters (objects old.content) data_name
  pub summary : stream_at letters (objects new.content) summary_name ≡ stream_at letters (objects old.content) summary_name

-- what a call makes of a package, and what it answers
abbrev pub PackageRule : Type 1
PackageRule = PackageContent → PackageContent → Result (Unit {0}) Error → Type 0

module _ {F : Type 0} {g : Ghosts F} where
  -- the rule gives a package, and the file means a tree that stores it
  pub record StoreIsChanged (rule : PackageRule) (tree : Tree) (P : PackageContent) (old new : CompoundFile F g) : Type 0 where
    pub next : PackageContent
    pub after : Tree
    pub answered : rule P next (Ok tt)
    pub means : FileMeansTree new after
    pub stores : StoresSoundPackage (file_case_table old) after next
    pub keeps : KeepsParts (file_case_table old) tree after

  -- A call that changes the package that a file stores: `Failed` after a fault, `InvalidData` where the file isn't sound. Of a file that
  -- means a tree that stores a sound package it does what the rule says, or is refused just as the rule refuses, and then the file
  -- means what it meant; else there was a fault. After any error the file has failed, or means what it meant.
  pub record ChangesStoredPackage {T : Type 0} (rule : PackageRule) (result : Result T Error) (old new : CompoundFile F g) : Type 0 where
    pub failed : has_failed_here (allocator_of (mini_of old)) ≡ true → IsErrOf result Failed
    pub unsound : has_failed_here (allocator_of (mini_of old)) ≡ false → sound_of old ≡ false → IsErrOf result InvalidData
    pub done : OnOk result ((tree : Tree) (P : PackageContent) → FileMeansTree old tree → StoresSoundPackage (file_case_table old) tree P → StoreIsChanged rule tree P old new)
    pub refused : IfErr result (λ e. (tree : Tree) (P : PackageContent) → FileMeansTree old tree → StoresSoundPackage (file_case_table old) tree P
        → IsFaultOrFull e ⊎ (rule P P (Err e) × KeepsMeant old new))
    pub rests : OnErr result ((has_failed_here (allocator_of (mini_of new)) ≡ true) ⊎ KeepsMeant old new)
    pub seen : (file_case_table new ≡ file_case_table old) × (sound_of new ≡ sound_of old) × (validation_of new ≡ validation_of old)
