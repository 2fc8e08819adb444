-- A package for which a file lacks room: where a call that changes one may answer `Full`.
use Rattle.std.specs.Prelude.{◌≡◌, ◌⊎◌, ◌<◌, ℕ, encode_utf8_all, false, length, IsErrOf, List, Some, Ok, Result}
use Rattle.cfb.specs.FollowedRules.{FileMeansTree}
use Rattle.cfb.specs.Putting.{IsFullAt}
use Rattle.cfb.specs.Views.{file_case_table, mini_of}
use Rattle.cfb.specs.declared.compound_file.CompoundFile.{CompoundFile}
use Rattle.cfb_directory.specs.Growth.{LacksEntries}
use Rattle.cfb_entries.specs.Rules.{names_in}
use Rattle.cfb_fat.specs.Tables.{has_failed_here, version_of}
use Rattle.cfb_medium.specs.Versions.{stream_len_mask}
use Rattle.cfb_medium.specs.declared.error.Error.{Error}
use Rattle.cfb_medium.specs.declared.error.Error.TheVariants.{Full}
use Rattle.cfb_medium.specs.declared.medium.ReadMedium.{Ghosts}
use Rattle.cfb_mini.specs.Views.{allocator_of, directory_of}
use Rattle.cfb_tree.specs.Tree.{Tree}
use Rattle.msi_spec.specs.Package.{stream_at, stream_name, PackageContent}
use Rattle.msi_stored.specs.Changing.{PackageRule, StoresSoundPackage}
use Rattle.msi_tables.specs.Rows.{kinds_of, rows_bytes}
use Rattle.msi_tables.specs.Table.{table_named, Table}

module _ {F : Type 0} {g : Ghosts F} where
  -- the file can't hold so many bytes as the stream of a name: no stream of its version has so many, or numbers are missing, of entries or
  -- of sectors ([MS-CFB] 2.2, 2.6.3)
  abbrev pub IsFullForName : CompoundFile F g → List ℕ → ℕ → Type 0
  IsFullForName it name len = (stream_len_mask (version_of (allocator_of (mini_of it))) < len) ⊎ LacksEntries (directory_of (mini_of it)) ⊎ IsFullAt it (names_in (encode_utf8_all name)) len

  -- nor the rows of one of the package's tables, as bytes
  pub record IsFullForTable (it : CompoundFile F g) (P : PackageContent) : Type 0 where
    pub name : List ℕ
    pub table : Table
    pub there : table_named P.tables name ≡ Some table
    pub bytes : List ℕ
    pub written : rows_bytes P.pool.long (kinds_of table.columns) table.rows ≡ Some bytes
    pub lacks : IsFullForName it (stream_name name) (length bytes)

  -- nor one of its own streams
  pub record IsFullForStream (it : CompoundFile F g) (P : PackageContent) : Type 0 where
    pub name : List ℕ
    pub bytes : List ℕ
    pub there : stream_at (file_case_table it) P.streams name ≡ Some bytes
    pub lacks : IsFullForName it name (length bytes)

  -- the file lacks room for the package that the rule gives
  pub record IsFullForRule (rule : PackageRule) (it : CompoundFile F g) (P : PackageContent) : Type 0 where
    pub next : PackageContent
    pub answered : rule P next (Ok tt)
    pub lacks : IsFullForTable it next ⊎ IsFullForStream it next

  -- of `ChangesBy`: `Full` comes only where the file lacks room so, or has failed
  abbrev pub FillsBy : {T : Type 0} → PackageRule → Result T Error → CompoundFile F g → CompoundFile F g → Type 0
  FillsBy rule result old new = IsErrOf result Full → has_failed_here (allocator_of (mini_of new)) ≡ false
      → (tree : Tree) (P : PackageContent) → FileMeansTree old tree → StoresSoundPackage (file_case_table old) tree P → IsFullForRule rule old P
