-- A package in memory, whose rows and streams lie in its file, and what opening tells.
use Rattle.std.specs.Prelude.{◌≡◌, ◌⊎◌, ◌↔◌, ℕ, false, true, Bool, List, Ok, Err, IsTrue}
use Rattle.cfb.specs.FollowedRules.{FileMeansTree}
use Rattle.cfb.specs.Streams.{FileHoldsTree}
use Rattle.cfb.specs.Views.{file_case_table}
use Rattle.cfb.specs.Views as read
use Rattle.cfb.specs.declared.compound_file.CompoundFile.{CompoundFile}
use Rattle.cfb_spec.specs.Means.{IsOpenable, BytesMeanTree}
use Rattle.cfb_spec.specs.Sound.{IsSoundContainer}
use Rattle.cfb_medium.specs.declared.error.Error.{Error}
use Rattle.cfb_medium.specs.declared.error.Error.TheVariants.{InvalidData, InvalidInput}
use Rattle.cfb_medium.specs.declared.medium.ReadMedium.{Ghosts}
use Rattle.cfb_tree.specs.Names.{CaseTable}
use Rattle.cfb_tree.specs.Tree.{Tree}
use Rattle.msi_spec.specs.Opening.{keeps_encoded_names, opened}
use Rattle.msi_spec.specs.Package.{PackageContent, TreePacksPackage}
use Rattle.msi_spec.specs.Sound.{IsSoundPackage}
use Rattle.msi_spec.specs.SoundParts.{GivesBack}
use Rattle.msi_spec.specs.Split.{HasPool, HasSummary, TreeStoresRest}
use Rattle.msi_spec.specs.declared.kind.PackageType.{PackageType}
use Rattle.msi_parts.specs.Parts.{HasSchema, MemoryIsPackage}
use Rattle.msi_pool.specs.PoolKept.{IsWritable}
use Rattle.msi_pool.specs.PoolState.{PoolState}
use Rattle.msi_props.specs.Held.{SetState}
use Rattle.msi_props.specs.Kept.{SetIsWritable}
use Rattle.msi_props.specs.Props.{Props}
use Rattle.msi_store.specs.Stores as store
use Rattle.msi_store.specs.declared.store.Store.{Store}
use Rattle.msi_stored.specs.Changing.{StoresSoundPackage}
use Rattle.msi_stored.specs.Shown.{IsBrokenPart, ShowsTree}
use Rattle.msi_streams.specs.Parts.{HasThree}
use Rattle.msi_summary.specs.Summary.{summary_format}
use Rattle.msi_tables.specs.Table.{Heading}
use Rattle.msi.specs.declared.package.Package.{Package}

-- a summary that can be written, and is then read as it is
pub record SummaryIsFit (s : Props) : Type 0 where
  pub writable : SetIsWritable s
  pub format : s.format ≡ summary_format

-- THE BYTES HOLD A SOUND PACKAGE: their container is sound, and the tree that it means packs a package that is
abbrev pub IsSoundFile : CaseTable → List ℕ → Type 0
IsSoundFile letters bytes = IsSoundContainer letters bytes
    × (tree : Tree) × BytesMeanTree letters bytes tree × (P : PackageContent) × (packs : TreePacksPackage letters tree P) × IsSoundPackage letters tree P packs

-- why bytes are refused under a case table that leaves encoded names alone: where the container can't be opened, as broken data alone; else each
-- tree that they show is refused so, or a stream that opening reads breaks, which is broken data
abbrev pub HoldNoPackage : CaseTable → List ℕ → Error → Type 0
HoldNoPackage letters bytes e =
    ((e ≡ InvalidData) × (IsOpenable letters bytes → ⊥))
    ⊎ (IsOpenable letters bytes × ((tree : Tree) → ShowsTree letters bytes tree → IsBrokenPart letters bytes e ⊎ (opened letters tree ≡ Err e)))

-- WHY BYTES ARE REFUSED: the case table touches encoded names, and that alone is told; or they hold no package
abbrev pub AreBytesRejected : CaseTable → List ℕ → Error → Type 0
AreBytesRejected letters bytes e =
    ((e ≡ InvalidInput) × (keeps_encoded_names letters ≡ false))
    ⊎ ((keeps_encoded_names letters ≡ true) × HoldNoPackage letters bytes e)

module _ {F : Type 0} {g : Ghosts F} where
  -- the tables and their file; the file; and the tables without their rows
  abbrev pub store_in : Package F g → Store F g
  store_in it = it.store

  abbrev pub file_in : Package F g → CompoundFile F g
  file_in it = store.file_in (store_in it)

  abbrev pub tables_in : Package F g → List Heading
  tables_in it = store.tables_in (store_in it)

  abbrev pub kind_in : Package F g → PackageType
  kind_in it = it.kind

  abbrev pub pool_in : Package F g → PoolState
  pool_in it = it.pool

  abbrev pub summary_in : Package F g → SetState
  summary_in it = it.summary

  abbrev pub sound_in : Package F g → Bool
  sound_in it = it.is_sound

  -- whether the summary in memory is that of its stream
  abbrev pub written_in : Package F g → Bool
  written_in it = it.is_summary_written

  -- it was only read
  pub record OnlyReadsPackage (old new : Package F g) : Type 0 where
    pub file : read.OnlyReadsFile (file_in old) (file_in new)
    pub tables : tables_in new ≡ tables_in old
    pub kind : kind_in new ≡ kind_in old
    pub pool : pool_in new ≡ pool_in old
    pub summary : summary_in new ≡ summary_in old
    pub sound : sound_in new ≡ sound_in old
    pub written : written_in new ≡ written_in old

  -- THE PACKAGE IN MEMORY IS THIS ONE: a tree that its file holds stores it, and memory has its other parts, which are those of their
  -- streams unless they were changed, or can't be written as they are. Of a sound package the file means the tree, which stores a sound one,
  -- and where neither part was changed their texts there give back their bytes.
  pub record PackageHasContent (it : Package F g) (P : PackageContent) : Type 0 where
    pub tree : Tree
    pub file : FileHoldsTree (file_in it) tree
    pub usable : keeps_encoded_names (file_case_table (file_in it)) ≡ true
    pub stores : TreeStoresRest (file_case_table (file_in it)) tree P
    pub memory : MemoryIsPackage (kind_in it) (summary_in it).props (pool_in it).pool (tables_in it) P
    pub pool : (pool_in it).modified ≡ false → IsWritable P.pool → HasPool (file_case_table (file_in it)) tree P.pool
    pub summary : written_in it ≡ true → SummaryIsFit P.summary → HasSummary (file_case_table (file_in it)) tree P.summary
    pub three : HasThree (file_case_table (file_in it)) tree
    pub sound : IsTrue (sound_in it) → FileMeansTree (file_in it) tree × StoresSoundPackage (file_case_table (file_in it)) tree P
    pub back : IsTrue (sound_in it) → (pool_in it).modified ≡ false → written_in it ≡ true → IsWritable P.pool → SummaryIsFit P.summary → GivesBack (file_case_table (file_in it)) tree

  -- Opened over these bytes under this case table, which leaves encoded names alone: a container can be opened in them; kind, summary and pool
  -- are those that each tree tells that they show, and so are the tables; each package that the tree packs that they mean is held; and it was
  -- judged exactly whether they hold a sound package.
  pub record IsOpenedPackage (letters : CaseTable) (bytes : List ℕ) (it : Package F g) : Type 0 where
    pub compared : file_case_table (file_in it) ≡ letters
    pub usable : keeps_encoded_names letters ≡ true
    pub openable : IsOpenable letters bytes
    pub told : (tree : Tree) → ShowsTree letters bytes tree → opened letters tree ≡ Ok (kind_in it, ((summary_in it).props, (pool_in it).pool))
    pub schema : (tree : Tree) → ShowsTree letters bytes tree → HasSchema letters tree (pool_in it).pool (tables_in it)
    pub holds : (tree : Tree) (P : PackageContent) → BytesMeanTree letters bytes tree → TreePacksPackage letters tree P → PackageHasContent it P
    pub sound : IsTrue (sound_in it) ↔ IsSoundFile letters bytes
