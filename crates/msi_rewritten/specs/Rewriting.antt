-- A package of which one table gets other rows, in another pool.
use Rattle.std.specs.Prelude.{◌≡◌, ◌||◌, ℕ, true, false, bytes_eq, map, List, Some, slice_get}
use Rattle.std.specs.List.{remove}
use Rattle.msi_changes.specs.Laws.{RefcountsMatchRows, OthersStay}
use Rattle.msi_pool.specs.Pool.{Pool}
use Rattle.msi_pool.specs.PoolKept.{AreFreeEmpty}
use Rattle.msi_tables.specs.Rows.{Row}
use Rattle.msi_tables.specs.Schema.{columns_in, columns_name, is_schema, tables_name, validation_name}
use Rattle.msi_tables.specs.Table.{row_data, Table}
use Rattle.msi_values.specs.Datum.{Datum}
use Rattle.msi_spec.specs.Calls.{rows_put}
use Rattle.msi_spec.specs.Package.{objects, stream_name, PackageContent}
use Rattle.msi_spec.specs.Sound.{refcounts_of}
use Rattle.msi_spec.specs.Streams.{stream_put}
use Rattle.cfb_tree.specs.Names.{CaseTable}
use Rattle.cfb_tree.specs.Tree.{Tree}

-- the package with these rows in the table of a name, and this pool
abbrev pub rewritten : PackageContent → List ℕ → List Row → Pool → PackageContent
rewritten P name stored pool = record P { pool = pool; tables = rows_put name stored P.tables }

-- rows of _Validation that describe tables just as others do
pub record DescribesAlike (old new : List (List Datum)) : Type 0 where
  pub schema : (tables columns : List (List Datum)) → is_schema tables columns old ≡ true → is_schema tables columns new ≡ true
  pub columns : (tables columns : List (List Datum)) → is_schema tables columns old ≡ true → (name : List ℕ) → columns_in columns new name ≡ columns_in columns old name

-- One of its tables gets these rows: not _Tables or _Columns, and _Validation only such as describe tables just as its own. The pool
-- then counts the uses of their cells beside those of the other tables, whose texts stay.
pub record ReplacesTableRows (P : PackageContent) (k : ℕ) (t : Table) (stored : List Row) (pool : Pool) : Type 0 where
  pub at : slice_get P.tables k ≡ Some t
  pub unlisted : (bytes_eq t.name tables_name || bytes_eq t.name columns_name) ≡ false
  pub described : bytes_eq t.name validation_name ≡ true → DescribesAlike (map (row_data P.pool) t.rows) (map (row_data pool) stored)
  pub long : pool.long ≡ P.pool.long
  pub uses : RefcountsMatchRows t.columns (refcounts_of (remove P.tables k)) pool stored
  pub stays : OthersStay (refcounts_of (remove P.tables k)) P.pool pool
  pub empty : AreFreeEmpty pool.places

-- the second tree is the first, but for the stream of a table, which has these bytes
pub record HasPut (letters : CaseTable) (name bytes : List ℕ) (old new : Tree) : Type 0 where
  pub root : new.root ≡ old.root
  pub objects : objects new.content ≡ stream_put letters (stream_name name) bytes (objects old.content)
