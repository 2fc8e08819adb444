-- The streams of a package in a file where a table is dropped, and what the call does.
use Rattle.std.specs.Prelude.{◌≡◌, ◌⊎◌, ℕ, true, false, List, Result, Err, IfErr, IsErrOf, OnErr, OnOk}
use Rattle.cfb.specs.FollowedRules.{FileMeansTree}
use Rattle.cfb.specs.Putting.{KeepsMeant}
use Rattle.cfb.specs.Views.{file_case_table, mini_of, sound_of, validation_of}
use Rattle.cfb.specs.declared.compound_file.CompoundFile.{CompoundFile}
use Rattle.cfb_fat.specs.Tables.{has_failed_here}
use Rattle.cfb_tree_edits.specs.LiveTreeRules.{IsFaultOrFull}
use Rattle.cfb_medium.specs.declared.error.Error.{Error}
use Rattle.cfb_medium.specs.declared.error.Error.TheVariants.{Failed, InvalidData}
use Rattle.cfb_medium.specs.declared.medium.ReadMedium.{Ghosts}
use Rattle.cfb_mini.specs.Views.{allocator_of}
use Rattle.cfb_tree.specs.Names.{CaseTable}
use Rattle.cfb_tree.specs.Tree.{Tree}
use Rattle.msi_row_edits.specs.Edited.{CanPut, MemoryIsTablesAndPool}
use Rattle.msi_spec.specs.Calls.{Drops}
use Rattle.msi_spec.specs.Package.{objects, stream_name, PackageContent}
use Rattle.msi_spec.specs.Streams.{without_stream}
use Rattle.msi_pool.specs.PoolState.{PoolState}
use Rattle.msi_rewritten.specs.Rewriting.{HasPut}
use Rattle.msi_store.specs.Stores.{file_in, tables_in}
use Rattle.msi_store.specs.declared.store.Store.{Store}
use Rattle.msi_stored.specs.Changing.{StoreIsChanged, StoresSoundPackage}
use Rattle.msi_tables.specs.Schema.{columns_name, tables_name, validation_name}
use Rattle.msi_table_edits.specs.Dropping.{HasDropped}

-- four tables can have these names, and no storage of the tree stands where their streams would
pub record CanDrop (letters : CaseTable) (name : List ℕ) (tree : Tree) : Type 0 where
  pub own : CanPut letters name tree
  pub columns : CanPut letters columns_name tree
  pub tables : CanPut letters tables_name tree
  pub validation : CanPut letters validation_name tree

-- the second tree is the first without the stream of a table
pub record HasRemoved (letters : CaseTable) (name : List ℕ) (old new : Tree) : Type 0 where
  pub root : new.root ≡ old.root
  pub rest : objects new.content ≡ without_stream letters (stream_name name) (objects old.content)

module _ {F : Type 0} {g : Ghosts F} where
  -- the table has no stream any more; what comes in between is a fault
  pub record RemovesTable {T : Type 0} (name : List ℕ) (result : Result T Error) (old new : CompoundFile F g) : Type 0 where
    pub done : OnOk result ((tree : Tree) → FileMeansTree old tree → CanPut (file_case_table old) name tree → (after : Tree) × FileMeansTree new after × HasRemoved (file_case_table old) name tree after)
    pub refused : IfErr result (λ e. (tree : Tree) → FileMeansTree old tree → CanPut (file_case_table old) name tree → IsFaultOrFull e)
    pub seen : (file_case_table new ≡ file_case_table old) × (sound_of new ≡ sound_of old) × (validation_of new ≡ validation_of old)

  -- the same where the streams of _Tables and _Validation got these bytes before it, and that of _Columns its own
  pub record ReplacesRest {T : Type 0} (name columns_bytes tables_bytes validation_bytes : List ℕ) (result : Result T Error) (old new : CompoundFile F g) : Type 0 where
    pub done : OnOk result ((start tree : Tree) → HasPut (file_case_table old) columns_name columns_bytes start tree → FileMeansTree old tree → CanDrop (file_case_table old) name tree
        → (after : Tree) × FileMeansTree new after × HasDropped (file_case_table old) name columns_bytes tables_bytes validation_bytes start after)
    pub refused : IfErr result (λ e. (tree : Tree) → FileMeansTree old tree → CanDrop (file_case_table old) name tree → IsFaultOrFull e)
    pub seen : (file_case_table new ≡ file_case_table old) × (sound_of new ≡ sound_of old) × (validation_of new ≡ validation_of old)

  -- The streams of _Columns, _Tables and _Validation get these bytes, and the table has no stream any more. What comes in between is a
  -- fault, and after an error the file has failed, or means what it meant.
  pub record ReplacesStreams {T : Type 0} (name columns_bytes tables_bytes validation_bytes : List ℕ) (result : Result T Error) (old new : CompoundFile F g) : Type 0 where
    pub done : OnOk result ((tree : Tree) → FileMeansTree old tree → CanDrop (file_case_table old) name tree
        → (after : Tree) × FileMeansTree new after × HasDropped (file_case_table old) name columns_bytes tables_bytes validation_bytes tree after)
    pub refused : IfErr result (λ e. (tree : Tree) → FileMeansTree old tree → CanDrop (file_case_table old) name tree → IsFaultOrFull e)
    pub rests : OnErr result ((has_failed_here (allocator_of (mini_of new)) ≡ true) ⊎ KeepsMeant old new)
    pub seen : (file_case_table new ≡ file_case_table old) × (sound_of new ≡ sound_of old) × (validation_of new ≡ validation_of old)

  -- the package without the table is stored, and memory has its pool and its tables
  pub record TableIsDropped (name : List ℕ) (tree : Tree) (P : PackageContent) (old new : Store F g) (after : PoolState) : Type 0 where
    pub changed : StoreIsChanged (λ P Q answer. Drops P name Q answer) tree P (file_in old) (file_in new)
    pub memory : MemoryIsTablesAndPool new after.pool changed.next

  -- A call that drops a table of a package that a file stores, with the pool and the tables in memory: `Failed` after a fault,
  -- `InvalidData` where the file isn't sound. Of a file that means a tree that stores a sound package, of which memory has pool and
  -- tables, it does what the rule says, and memory has those of the new package; or it is refused just as the rule refuses, and the
  -- file means what it meant; else there was a fault. After any error pool and tables are as they were, and the file has failed, or
  -- means what it meant.
  pub record DropsTable {T : Type 0} (name : List ℕ) (result : Result T Error) (old new : Store F g) (before after : PoolState) : Type 0 where
    pub failed : has_failed_here (allocator_of (mini_of (file_in old))) ≡ true → IsErrOf result Failed
    pub unsound : has_failed_here (allocator_of (mini_of (file_in old))) ≡ false → sound_of (file_in old) ≡ false → IsErrOf result InvalidData
    pub done : OnOk result ((tree : Tree) (P : PackageContent) → FileMeansTree (file_in old) tree → StoresSoundPackage (file_case_table (file_in old)) tree P → MemoryIsTablesAndPool old before.pool P
        → TableIsDropped name tree P old new after)
    pub refused : IfErr result (λ e. (tree : Tree) (P : PackageContent) → FileMeansTree (file_in old) tree → StoresSoundPackage (file_case_table (file_in old)) tree P → MemoryIsTablesAndPool old before.pool P
        → IsFaultOrFull e ⊎ (Drops P name P (Err e) × KeepsMeant (file_in old) (file_in new)))
    pub rests : OnErr result ((has_failed_here (allocator_of (mini_of (file_in new))) ≡ true) ⊎ KeepsMeant (file_in old) (file_in new))
    pub pool : OnErr result (after ≡ before)
    pub tables : OnErr result (tables_in new ≡ tables_in old)
    pub marked : after.modified ≡ false → after ≡ before
    pub seen : (file_case_table (file_in new) ≡ file_case_table (file_in old)) × (sound_of (file_in new) ≡ sound_of (file_in old)) × (validation_of (file_in new) ≡ validation_of (file_in old))
