-- A package with one table more, and the tree that got the rows that describe it.
use Rattle.std.specs.Prelude.{◌≡◌, ℕ, All, IsTrue, List, Ok, Some, is_none}
use Rattle.std.specs.List.{list_all}
use Rattle.cfb_tree.specs.Names.{CaseTable}
use Rattle.cfb_tree.specs.Tree.{Tree}
use Rattle.msi_columns.specs.Column.{Column}
use Rattle.msi_spec.specs.RoundTrips.{RowsRoundTrip}
use Rattle.msi_spec.specs.Calls.{created, new_table, own_columns, rows_put, table_put, Rows3}
use Rattle.msi_spec.specs.Package.{at_name, stream_name, PackageContent}
use Rattle.msi_pool.specs.Pool.{Pool}
use Rattle.msi_rewritten.specs.Rewriting.{HasPut}
use Rattle.msi_tables.specs.Rows.{has_place, kinds_of, rows_of, AreRowsWritable, Row}
use Rattle.msi_tables.specs.Schema.{columns_columns, columns_name, tables_columns, tables_name, validation_name}
use Rattle.msi_tables.specs.Table.{IsStoredByKeys}

-- the package with a new table, these rows in _Columns, _Tables and _Validation, and this pool
abbrev pub with_table : PackageContent → List ℕ → List Column → Pool → List Row → List Row → List Row → PackageContent
with_table P name columns pool c t v = record P {
  pool = pool;
  tables = rows_put columns_name c (rows_put tables_name t (rows_put validation_name v (table_put (new_table name columns) P.tables)));
}

-- the new table is accepted, and these are the rows of the three tables in the order in which they are stored
pub record IsNewTableAccepted (letters : CaseTable) (P : PackageContent) (name : List ℕ) (columns : List Column) (pool : Pool) (c t v : List Row) : Type 0 where
  pub rows : Rows3
  pub told : created (is_none (at_name letters P.storages (stream_name name))) P name columns ≡ Ok (rows, pool)
  pub columns_stored : IsStoredByKeys pool columns_columns rows.0 c
  pub tables_stored : IsStoredByKeys pool tables_columns rows.1 t
  pub validation_stored : IsStoredByKeys pool (own_columns P) rows.2 v

-- the second tree is the first, but for the streams of the three tables, which have these bytes
pub record HasPutThree (letters : CaseTable) (columns_bytes tables_bytes validation_bytes : List ℕ) (old new : Tree) : Type 0 where
  pub first : Tree
  pub second : Tree
  pub columns : HasPut letters columns_name columns_bytes old first
  pub tables : HasPut letters tables_name tables_bytes first second
  pub validation : HasPut letters validation_name validation_bytes second new

-- the rows are what the bytes are read as
pub record AreReadThree (P : PackageContent) (columns_bytes tables_bytes validation_bytes : List ℕ) (c t v : List Row) : Type 0 where
  pub columns : rows_of P.pool.long (kinds_of columns_columns) columns_bytes ≡ Some c
  pub tables : rows_of P.pool.long (kinds_of tables_columns) tables_bytes ≡ Some t
  pub validation : rows_of P.pool.long (kinds_of (own_columns P)) validation_bytes ≡ Some v

-- rows of the three tables that their streams can hold
pub record CanBeStoredThree (P : PackageContent) (rows : Rows3) : Type 0 where
  pub columns : AreRowsWritable P.pool.long columns_columns rows.0
  pub tables : AreRowsWritable P.pool.long tables_columns rows.1
  pub validation : AreRowsWritable P.pool.long (own_columns P) rows.2
  pub columns_places : All (λ row. IsTrue (list_all has_place row)) rows.0
  pub tables_places : All (λ row. IsTrue (list_all has_place row)) rows.1
  pub validation_places : All (λ row. IsTrue (list_all has_place row)) rows.2

-- they come back from their bytes
pub record ComeBackThree (P : PackageContent) (c t v : List Row) : Type 0 where
  pub columns : RowsRoundTrip P.pool.long columns_columns c
  pub tables : RowsRoundTrip P.pool.long tables_columns t
  pub validation : RowsRoundTrip P.pool.long (own_columns P) v
