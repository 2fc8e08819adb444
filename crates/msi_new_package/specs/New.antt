-- A new package: the rows that describe its table _Validation, and the tree that got their streams.
use Rattle.std.specs.Prelude.{◌≡◌, ℕ, true, false, List, [], map, Some, Ok}
use Rattle.cfb.specs.FollowedRules.{FileMeansTree}
use Rattle.cfb.specs.Views.{file_case_table}
use Rattle.cfb.specs.declared.compound_file.CompoundFile.{CompoundFile}
use Rattle.cfb_medium.specs.declared.medium.ReadMedium.{Ghosts}
use Rattle.cfb_tree.specs.Names.{CaseTable}
use Rattle.cfb_tree.specs.Tree.{Tree}
use Rattle.msi_spec.specs.Calls.{bare_package, described, rows_put, IsNew, Rows3}
use Rattle.msi_spec.specs.Package.{class_of, objects, PackageContent}
use Rattle.msi_spec.specs.declared.kind.PackageType.{PackageType}
use Rattle.msi_spec.specs.declared.kind.PackageType.TheVariants.{Installer}
use Rattle.msi_parts.specs.Parts.{heading}
use Rattle.msi_pool.specs.Pool.{Pool}
use Rattle.msi_pool.specs.PoolKept.{IsWritable}
use Rattle.msi_pool.specs.PoolState.{PoolState}
use Rattle.msi_props.specs.Kept.{SetIsWritable}
use Rattle.msi_props.specs.Props.{Props}
use Rattle.msi_rewritten.specs.Rewriting.{HasPut}
use Rattle.msi_store.specs.Stores.{file_in, tables_in}
use Rattle.msi_store.specs.declared.store.Store.{Store}
use Rattle.msi_stored.specs.Changing.{StoresSoundPackage}
use Rattle.msi_summary.specs.Summary.{summary_format}
use Rattle.msi_tables.specs.Rows.{kinds_of, rows_bytes, Row}
use Rattle.msi_tables.specs.Schema.{columns_columns, columns_name, tables_columns, tables_name, validation_columns, validation_name}
use Rattle.msi_tables.specs.Table.{Heading, IsStoredByKeys}

-- a package of three system tables with these rows, and this pool
abbrev pub new_package : PackageType → Pool → List Row → List Row → List Row → PackageContent
new_package kind pool c t v = record (bare_package kind) {
  pool = pool;
  tables = rows_put columns_name c (rows_put tables_name t (rows_put validation_name v (bare_package kind).tables));
}

-- a tree that held nothing, whose root has the identifier of the kind, got the streams of the three system tables with these bytes
pub record IsLaidDown (letters : CaseTable) (kind : PackageType) (columns_bytes tables_bytes validation_bytes : List ℕ) (tree : Tree) : Type 0 where
  pub start : Tree
  pub first : Tree
  pub second : Tree
  pub class : start.root.clsid ≡ class_of kind
  pub nothing : objects start.content ≡ []
  pub columns : HasPut letters columns_name columns_bytes start first
  pub tables : HasPut letters tables_name tables_bytes first second
  pub validation : HasPut letters validation_name validation_bytes second tree

-- the rows that describe _Validation in the order in which they are stored, as bytes; and the pool that counts their texts
pub record AreNewBytes (pool : Pool) (columns_bytes tables_bytes validation_bytes : List ℕ) : Type 0 where
  pub rows : Rows3
  pub told : (kind : PackageType) → described (bare_package kind) validation_name validation_columns ≡ Ok (rows, pool)
  pub columns : List Row
  pub tables : List Row
  pub validation : List Row
  pub columns_stored : IsStoredByKeys pool columns_columns rows.0 columns
  pub tables_stored : IsStoredByKeys pool tables_columns rows.1 tables
  pub validation_stored : IsStoredByKeys pool validation_columns rows.2 validation
  pub columns_written : rows_bytes false (kinds_of columns_columns) columns ≡ Some columns_bytes
  pub tables_written : rows_bytes false (kinds_of tables_columns) tables ≡ Some tables_bytes
  pub validation_written : rows_bytes false (kinds_of validation_columns) validation ≡ Some validation_bytes

-- the rows that describe _Validation, and the pool that counts their texts
abbrev pub AreTextsCounted : Pool → List Row → List Row → List Row → Type 0
AreTextsCounted pool c t v = (kind : PackageType) → described (bare_package kind) validation_name validation_columns ≡ Ok ((c, t, v), pool)

-- the three tables without their rows
abbrev pub system_headings : List Heading
system_headings = map (heading false) (bare_package Installer).tables

-- pool and summary of a package come back from their streams
pub record PartsComeBack (P : PackageContent) : Type 0 where
  pub pool : IsWritable P.pool
  pub summary : SetIsWritable P.summary
  pub one_section : P.summary.sections ≡ 1
  pub format : P.summary.format ≡ summary_format

module _ {F : Type 0} {g : Ghosts F} where
  -- the file means a tree that got the identifier and the streams
  pub record LaysDown (kind : PackageType) (columns_bytes tables_bytes validation_bytes : List ℕ) (old new : CompoundFile F g) : Type 0 where
    pub after : Tree
    pub means : FileMeansTree new after
    pub laid : IsLaidDown (file_case_table old) kind columns_bytes tables_bytes validation_bytes after

  -- A NEW PACKAGE: its file means a tree that stores it, and memory has its tables, its pool, which isn't written yet, and its summary
  pub record IsNewPackage (kind : PackageType) (it : Store F g) (pool : PoolState) (summary : Props) : Type 0 where
    pub next : PackageContent
    pub new : IsNew kind next
    pub of_kind : next.kind ≡ kind
    pub tree : Tree
    pub means : FileMeansTree (file_in it) tree
    pub stores : StoresSoundPackage (file_case_table (file_in it)) tree next
    pub counts : pool.pool ≡ next.pool
    pub unwritten : pool.modified ≡ true
    pub tells : summary ≡ next.summary
    pub tables : tables_in it ≡ map (heading next.pool.long) next.tables
