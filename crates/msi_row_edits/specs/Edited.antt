-- Calls that change the rows of a table of a package in a file, with the pool beside it.
use Rattle.std.specs.Prelude.{◌≡◌, ◌⊎◌, ℕ, true, false, not, filter, map, List, None, Some, Result, Err, IfErr, IsErrOf, OnErr, OnOk}
use Rattle.cfb.specs.FollowedRules.{FileMeansTree}
use Rattle.cfb.specs.Putting.{IsPutStreamError, KeepsMeant}
use Rattle.cfb.specs.Views.{file_case_table, mini_of, sound_of, validation_of}
use Rattle.cfb.specs.declared.compound_file.CompoundFile.{CompoundFile}
use Rattle.cfb_fat.specs.Tables.{has_failed_here}
use Rattle.cfb_tree_edits.specs.LiveTreeRules.{IsFaultOrFull}
use Rattle.cfb_medium.specs.Calls.{IsFaultOrInvalidInputIf}
use Rattle.cfb_medium.specs.declared.error.Error.{Error}
use Rattle.cfb_medium.specs.declared.error.Error.TheVariants.{AlreadyExists, Device, Failed, Full, InvalidData, InvalidInput, Memory, NotFound, UnexpectedEof}
use Rattle.cfb_medium.specs.declared.medium.ReadMedium.{Ghosts}
use Rattle.cfb_mini.specs.Views.{allocator_of}
use Rattle.cfb_tree.specs.Names.{CaseTable}
use Rattle.cfb_tree.specs.Tree.{Tree}
use Rattle.msi_spec.specs.Package.{at_name, is_stream, objects, stream_name}
use Rattle.msi_spec.specs.Package.{PackageContent}
use Rattle.msi_spec.specs.Sound.{is_free_table_name}
use Rattle.msi_parts.specs.Parts.{heading}
use Rattle.msi_pool.specs.Pool.{Pool}
use Rattle.msi_pool.specs.PoolState.{PoolState}
use Rattle.msi_rewritten.specs.Rewriting.{HasPut}
use Rattle.msi_store.specs.Stores.{file_in, tables_in}
use Rattle.msi_store.specs.declared.store.Store.{Store}
use Rattle.msi_stored.specs.Changing.{StoreIsChanged, PackageRule, StoresSoundPackage}
use Rattle.msi_stored.specs.Room.{IsFullForRule}
use Rattle.msi_tables.specs.Table.{table_named, Heading, Table}

-- a table can have the name, and no storage of the tree stands where its stream would
pub record CanPut (letters : CaseTable) (name : List ℕ) (tree : Tree) : Type 0 where
  pub free : is_free_table_name name ≡ true
  pub no_storage : at_name letters (filter (λ o. not (is_stream o)) (objects tree.content)) (stream_name name) ≡ None

-- which errors there are over any medium: faults, and refusals of the query and of the container
abbrev pub IsEditError : Error → Type 0
IsEditError e = IsFaultOrInvalidInputIf ⊥ e ⊎ IsPutStreamError e

-- and which before anything is put: no want of room
abbrev pub IsEditErrorButFull : Error → Type 0
IsEditErrorButFull UnexpectedEof = ⊥
IsEditErrorButFull Full = ⊥
IsEditErrorButFull Memory = Unit {0}
IsEditErrorButFull Device = Unit {0}
IsEditErrorButFull Failed = Unit {0}
IsEditErrorButFull InvalidData = Unit {0}
IsEditErrorButFull InvalidInput = Unit {0}
IsEditErrorButFull NotFound = Unit {0}
IsEditErrorButFull AlreadyExists = Unit {0}

-- the pool is the package's, and the table of the heading's name is this one
pub record IsTableOf (held : Pool) (h : Heading) (P : PackageContent) (t : Table) : Type 0 where
  pub pool : held ≡ P.pool
  pub named : table_named P.tables h.name ≡ Some t
  pub told : h ≡ heading P.pool.long t

module _ {F : Type 0} {g : Ghosts F} where
  -- The table's stream is put with these bytes. Where it can be put, what comes in between is a fault. After an error the file has
  -- failed, or means what it meant.
  pub record PutsTable {T : Type 0} (name bytes : List ℕ) (result : Result T Error) (old new : CompoundFile F g) : Type 0 where
    pub done : OnOk result ((tree : Tree) → FileMeansTree old tree → CanPut (file_case_table old) name tree → (after : Tree) × FileMeansTree new after × HasPut (file_case_table old) name bytes tree after)
    pub refused : IfErr result (λ e. (tree : Tree) → FileMeansTree old tree → CanPut (file_case_table old) name tree → IsFaultOrFull e)
    pub rests : OnErr result ((has_failed_here (allocator_of (mini_of new)) ≡ true) ⊎ KeepsMeant old new)
    pub seen : (file_case_table new ≡ file_case_table old) × (sound_of new ≡ sound_of old) × (validation_of new ≡ validation_of old)

  -- the rule gives a package whose pool this is, with the tables that were there, but for rows, and the file means a tree that stores it
  pub record IsEdited (rule : PackageRule) (tree : Tree) (P : PackageContent) (old new : CompoundFile F g) (after : PoolState) : Type 0 where
    pub changed : StoreIsChanged rule tree P old new
    pub pool : after.pool ≡ changed.next.pool
    pub tables : map (heading changed.next.pool.long) changed.next.tables ≡ map (heading P.pool.long) P.tables

  -- a call on the rows of one table, as `EditsPackageRows` has it
  pub record EditsTable {T : Type 0} (rule : PackageRule) (h : Heading) (result : Result T Error) (old new : CompoundFile F g) (before after : PoolState) : Type 0 where
    pub done : OnOk result ((tree : Tree) (P : PackageContent) (t : Table) → FileMeansTree old tree → StoresSoundPackage (file_case_table old) tree P → IsTableOf before.pool h P t → IsEdited rule tree P old new after)
    pub refused : IfErr result (λ e. (tree : Tree) (P : PackageContent) (t : Table) → FileMeansTree old tree → StoresSoundPackage (file_case_table old) tree P → IsTableOf before.pool h P t
        → IsFaultOrFull e ⊎ (rule P P (Err e) × KeepsMeant old new))
    pub rests : OnErr result ((has_failed_here (allocator_of (mini_of new)) ≡ true) ⊎ KeepsMeant old new)
    pub pool : OnErr result (after ≡ before)
    pub marked : after.modified ≡ false → after ≡ before
    pub seen : (file_case_table new ≡ file_case_table old) × (sound_of new ≡ sound_of old) × (validation_of new ≡ validation_of old)

  -- `Full` comes only where the file lacks room for the package that the rule gives, or has failed
  abbrev pub FillsTable : {T : Type 0} → PackageRule → Heading → Result T Error → CompoundFile F g → CompoundFile F g → PoolState → Type 0
  FillsTable rule h result old new before = IsErrOf result Full → has_failed_here (allocator_of (mini_of new)) ≡ false
      → (tree : Tree) (P : PackageContent) (t : Table) → FileMeansTree old tree → StoresSoundPackage (file_case_table old) tree P → IsTableOf before.pool h P t → IsFullForRule rule old P

  -- pool and tables in memory are those of the package, the tables without their rows
  pub record MemoryIsTablesAndPool (it : Store F g) (held : Pool) (P : PackageContent) : Type 0 where
    pub pool : held ≡ P.pool
    pub tables : tables_in it ≡ map (heading P.pool.long) P.tables

  -- A call that changes rows of a package that a file stores, with the pool in memory: `Failed` after a fault, `InvalidData` where the
  -- file isn't sound. Of a file that means a tree that stores a sound package, of which memory has pool and tables, it does what the
  -- rule says, and memory has those of the new package; or it is refused just as the rule refuses, and the file means what it meant;
  -- else there was a fault. After any error the pool is as it was, and the file has failed, or means what it meant.
  pub record EditsPackageRows {T : Type 0} (rule : PackageRule) (result : Result T Error) (old new : Store F g) (before after : PoolState) : Type 0 where
    pub failed : has_failed_here (allocator_of (mini_of (file_in old))) ≡ true → IsErrOf result Failed
    pub unsound : has_failed_here (allocator_of (mini_of (file_in old))) ≡ false → sound_of (file_in old) ≡ false → IsErrOf result InvalidData
    pub done : OnOk result ((tree : Tree) (P : PackageContent) → FileMeansTree (file_in old) tree → StoresSoundPackage (file_case_table (file_in old)) tree P → MemoryIsTablesAndPool old before.pool P
        → IsEdited rule tree P (file_in old) (file_in new) after)
    pub refused : IfErr result (λ e. (tree : Tree) (P : PackageContent) → FileMeansTree (file_in old) tree → StoresSoundPackage (file_case_table (file_in old)) tree P → MemoryIsTablesAndPool old before.pool P
        → IsFaultOrFull e ⊎ (rule P P (Err e) × KeepsMeant (file_in old) (file_in new)))
    pub rests : OnErr result ((has_failed_here (allocator_of (mini_of (file_in new))) ≡ true) ⊎ KeepsMeant (file_in old) (file_in new))
    pub pool : OnErr result (after ≡ before)
    pub marked : after.modified ≡ false → after ≡ before
    pub tables : tables_in new ≡ tables_in old
    pub seen : (file_case_table (file_in new) ≡ file_case_table (file_in old)) × (sound_of (file_in new) ≡ sound_of (file_in old)) × (validation_of (file_in new) ≡ validation_of (file_in old))

  -- of `EditsPackageRows`: `Full` comes only where the file lacks room for the package that the rule gives, or has failed
  abbrev pub EditFullOnlyWithoutRoom : {T : Type 0} → PackageRule → Result T Error → Store F g → Store F g → PoolState → Type 0
  EditFullOnlyWithoutRoom rule result old new before = IsErrOf result Full → has_failed_here (allocator_of (mini_of (file_in new))) ≡ false
      → (tree : Tree) (P : PackageContent) → FileMeansTree (file_in old) tree → StoresSoundPackage (file_case_table (file_in old)) tree P → MemoryIsTablesAndPool old before.pool P → IsFullForRule rule (file_in old) P
