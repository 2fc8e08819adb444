-- The pool and the summary of a package that are written to their streams.
use Rattle.std.specs.Prelude.{◌≡◌, ◌<◌, ◌⊎◌, ℕ, true, false, length, List, Result, IsErrOf, OnErr, OnOk}
use Rattle.cfb.specs.FollowedRules.{FileMeansTree}
use Rattle.cfb.specs.Putting.{KeepsMeant}
use Rattle.cfb.specs.Views.{file_case_table, mini_of, sound_of, validation_of}
use Rattle.cfb.specs.declared.compound_file.CompoundFile.{CompoundFile}
use Rattle.cfb_fat.specs.Tables.{has_failed_here}
use Rattle.cfb_medium.specs.declared.error.Error.{Error}
use Rattle.cfb_medium.specs.declared.error.Error.TheVariants.{Failed, Full, InvalidData}
use Rattle.cfb_medium.specs.declared.medium.ReadMedium.{Ghosts}
use Rattle.cfb_mini.specs.Views.{allocator_of}
use Rattle.cfb_tree.specs.Names.{CaseTable}
use Rattle.cfb_tree.specs.Objects.{Object}
use Rattle.cfb_tree.specs.Tree.{Tree}
use Rattle.msi_spec.specs.Package.{PackageContent}
use Rattle.msi_pool.specs.Pool.{Pool, data_stream, pool_stream}
use Rattle.msi_pool.specs.PoolState.{is_in_size}
use Rattle.msi_props.specs.Props.{Props, props_bytes}
use Rattle.msi_props.specs.Props.{is_in_size as set_is_in_size}
use Rattle.msi_stored.specs.Changing.{StoresSoundPackage}
use Rattle.msi_stored.specs.Room.{IsFullForName}
use Rattle.msi_spec.specs.Package.{at_name, data_name, is_stream, objects, pool_name, stream_at, stream_name, summary_name, table_stream}
use Rattle.std.specs.Prelude.{Some}

-- the three streams that the parts have
pub record PartBytes : Type 0 where
  pub summary : List ℕ
  pub pool : List ℕ
  pub pool_data : List ℕ

-- those of a pool and a summary
abbrev pub bytes_of_parts : Pool → Props → PartBytes
bytes_of_parts pool summary = record { summary = props_bytes summary; pool = pool_stream pool; pool_data = data_stream pool }

-- a stream of a part is longer than one can be, or the pool or the summary can't be written at all
abbrev pub IsTooLong : ℕ → Pool → Props → Type 0
IsTooLong most pool summary =
    (set_is_in_size summary ≡ false) ⊎ (is_in_size pool ≡ false) ⊎ (most < length (props_bytes summary)) ⊎ (most < length (pool_stream pool)) ⊎ (most < length (data_stream pool))

-- streams stand in the places of the three
pub record HasThree (letters : CaseTable) (tree : Tree) : Type 0 where
  pub summary : List ℕ
  pub summary_at : stream_at letters (objects tree.content) summary_name ≡ Some summary
  pub pool : List ℕ
  pub pool_at : table_stream letters (objects tree.content) pool_name ≡ Some pool
  pub pool_data : List ℕ
  pub data_at : table_stream letters (objects tree.content) data_name ≡ Some pool_data

-- no storage stands at the name
abbrev pub HasNoStorageAt : CaseTable → Tree → List ℕ → Type 0
HasNoStorageAt letters tree name = (o : Object) → at_name letters (objects tree.content) name ≡ Some o → is_stream o ≡ true

-- nor at any of the three's
pub record CanHaveThree (letters : CaseTable) (tree : Tree) : Type 0 where
  pub summary : HasNoStorageAt letters tree summary_name
  pub pool : HasNoStorageAt letters tree (stream_name pool_name)
  pub pool_data : HasNoStorageAt letters tree (stream_name data_name)

module _ {F : Type 0} {g : Ghosts F} where
  -- the file means a tree that stores the package still, and has these three streams
  pub record HasParts (letters : CaseTable) (P : PackageContent) (parts : PartBytes) (new : CompoundFile F g) : Type 0 where
    pub after : Tree
    pub means : FileMeansTree new after
    pub stores : StoresSoundPackage letters after P
    pub summary_at : stream_at letters (objects after.content) summary_name ≡ Some parts.summary
    pub pool_at : table_stream letters (objects after.content) pool_name ≡ Some parts.pool
    pub data_at : table_stream letters (objects after.content) data_name ≡ Some parts.pool_data

  -- `Failed` after a fault, `InvalidData` where the file isn't sound; else the parts are written, and all else of the package stays.
  -- After any error the file has failed, or means what it meant.
  pub record WritesPackageParts {T : Type 0} (parts : PartBytes) (result : Result T Error) (old new : CompoundFile F g) : Type 0 where
    pub failed : has_failed_here (allocator_of (mini_of old)) ≡ true → IsErrOf result Failed
    pub unsound : has_failed_here (allocator_of (mini_of old)) ≡ false → sound_of old ≡ false → IsErrOf result InvalidData
    pub done : OnOk result ((tree : Tree) (P : PackageContent) → FileMeansTree old tree → StoresSoundPackage (file_case_table old) tree P → HasParts (file_case_table old) P parts new)
    pub rests : OnErr result ((has_failed_here (allocator_of (mini_of new)) ≡ true) ⊎ KeepsMeant old new)
    pub seen : (file_case_table new ≡ file_case_table old) × (sound_of new ≡ sound_of old) × (validation_of new ≡ validation_of old)

  -- `Full` comes only where the file lacks room for the summary, of so many bytes, which is put before the others, or has failed
  abbrev pub FillsParts : {T : Type 0} → ℕ → Result T Error → CompoundFile F g → CompoundFile F g → Type 0
  FillsParts len result old new = IsErrOf result Full → has_failed_here (allocator_of (mini_of new)) ≡ false → IsFullForName old summary_name len

  -- of a file that can have the three streams this is so
  abbrev pub OfPackage : CompoundFile F g → Type 0 → Type 0
  OfPackage it A = (tree : Tree) (P : PackageContent) → FileMeansTree it tree → StoresSoundPackage (file_case_table it) tree P → CanHaveThree (file_case_table it) tree → A
