-- Calls that make a table of a package in a file, with pool and tables in memory.
use Rattle.std.specs.Prelude.{◌≡◌, ◌⊎◌, ℕ, false, true, List, [], ◌∷◌, Err, IfErr, IsErrOf, OnErr, OnOk, Result, if◌then◌else◌}
use Rattle.std.specs.Ordering.{is_lt}
use Rattle.cfb.specs.FollowedRules.{FileMeansTree}
use Rattle.cfb.specs.Putting.{KeepsMeant}
use Rattle.cfb.specs.Views.{file_case_table, mini_of, sound_of, validation_of}
use Rattle.cfb.specs.declared.compound_file.CompoundFile.{CompoundFile}
use Rattle.cfb_fat.specs.Tables.{has_failed_here}
use Rattle.cfb_tree_edits.specs.LiveTreeRules.{IsFaultOrFull}
use Rattle.cfb_medium.specs.declared.error.Error.{Error}
use Rattle.cfb_medium.specs.declared.error.Error.TheVariants.{Failed, InvalidData}
use Rattle.cfb_medium.specs.declared.medium.ReadMedium.{Ghosts}
use Rattle.cfb_mini.specs.Views.{allocator_of}
use Rattle.cfb_tree.specs.Names.{CaseTable}
use Rattle.cfb_tree.specs.Tree.{Tree}
use Rattle.msi_row_edits.specs.Edited.{CanPut, MemoryIsTablesAndPool}
use Rattle.msi_spec.specs.Package.{table_name_cmp, PackageContent}
use Rattle.msi_pool.specs.PoolState.{PoolState}
use Rattle.msi_store.specs.Stores.{file_in, tables_in}
use Rattle.msi_store.specs.declared.store.Store.{Store}
use Rattle.msi_stored.specs.Changing.{PackageRule, StoreIsChanged, StoresSoundPackage}
use Rattle.msi_tables.specs.Schema.{columns_name, tables_name, validation_name}
use Rattle.msi_tables.specs.Table.{Heading}
use Rattle.msi_table_edits.specs.Created.{HasPutThree}

-- a table in memory among those that rise by name
abbrev pub heading_put : Heading → List Heading → List Heading
heading_put h [] = h ∷ []
heading_put h (x ∷ xs) = if is_lt (table_name_cmp h.name x.name) then h ∷ x ∷ xs else x ∷ heading_put h xs

-- no storage of the tree stands where the streams of the three tables are
pub record CanPutThree (letters : CaseTable) (tree : Tree) : Type 0 where
  pub columns : CanPut letters columns_name tree
  pub tables : CanPut letters tables_name tree
  pub validation : CanPut letters validation_name tree

module _ {F : Type 0} {g : Ghosts F} where
  -- The streams of the three tables are put with these bytes. Where they can be put, what comes in between is a fault. After an error
  -- the file has failed, or means what it meant.
  pub record PutsThree {T : Type 0} (columns_bytes tables_bytes validation_bytes : List ℕ) (result : Result T Error) (old new : CompoundFile F g) : Type 0 where
    pub done : OnOk result ((tree : Tree) → FileMeansTree old tree → CanPutThree (file_case_table old) tree
        → (after : Tree) × FileMeansTree new after × HasPutThree (file_case_table old) columns_bytes tables_bytes validation_bytes tree after)
    pub refused : IfErr result (λ e. (tree : Tree) → FileMeansTree old tree → CanPutThree (file_case_table old) tree → IsFaultOrFull e)
    pub rests : OnErr result ((has_failed_here (allocator_of (mini_of new)) ≡ true) ⊎ KeepsMeant old new)
    pub seen : (file_case_table new ≡ file_case_table old) × (sound_of new ≡ sound_of old) × (validation_of new ≡ validation_of old)

  -- the rule gives a package, the file means a tree that stores it, and memory has its pool and its tables
  pub record IsTableSetChanged (rule : PackageRule) (tree : Tree) (P : PackageContent) (old new : Store F g) (after : PoolState) : Type 0 where
    pub changed : StoreIsChanged rule tree P (file_in old) (file_in new)
    pub memory : MemoryIsTablesAndPool new after.pool changed.next

  -- A call that changes which tables a package has, with pool and tables in memory: `Failed` after a fault, `InvalidData` where the file
  -- isn't sound. Of a file that means a tree that stores a sound package, of which memory has pool and tables, it does what the rule
  -- says; or it is refused just as the rule refuses, and the file means what it meant; else there was a fault. After any error pool and
  -- tables are as they were, and the file has failed, or means what it meant.
  pub record ChangesTableSet {T : Type 0} (rule : PackageRule) (result : Result T Error) (old new : Store F g) (before after : PoolState) : Type 0 where
    pub failed : has_failed_here (allocator_of (mini_of (file_in old))) ≡ true → IsErrOf result Failed
    pub unsound : has_failed_here (allocator_of (mini_of (file_in old))) ≡ false → sound_of (file_in old) ≡ false → IsErrOf result InvalidData
    pub done : OnOk result ((tree : Tree) (P : PackageContent) → FileMeansTree (file_in old) tree → StoresSoundPackage (file_case_table (file_in old)) tree P → MemoryIsTablesAndPool old before.pool P
        → IsTableSetChanged rule tree P old new after)
    pub refused : IfErr result (λ e. (tree : Tree) (P : PackageContent) → FileMeansTree (file_in old) tree → StoresSoundPackage (file_case_table (file_in old)) tree P → MemoryIsTablesAndPool old before.pool P
        → IsFaultOrFull e ⊎ (rule P P (Err e) × KeepsMeant (file_in old) (file_in new)))
    pub rests : OnErr result ((has_failed_here (allocator_of (mini_of (file_in new))) ≡ true) ⊎ KeepsMeant (file_in old) (file_in new))
    pub memory : OnErr result ((after ≡ before) × (tables_in new ≡ tables_in old))
    pub marked : after.modified ≡ false → after ≡ before
    pub seen : (file_case_table (file_in new) ≡ file_case_table (file_in old)) × (sound_of (file_in new) ≡ sound_of (file_in old)) × (validation_of (file_in new) ≡ validation_of (file_in old))
