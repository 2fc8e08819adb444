-- A package without one of its tables, and the tree that stores it.
use Rattle.std.specs.Prelude.{◌≡◌, ℕ, not, bytes_eq, filter, List, Ok, Some}
use Rattle.cfb_tree.specs.Names.{CaseTable}
use Rattle.cfb_tree.specs.Tree.{Tree}
use Rattle.msi_spec.specs.Calls.{dropped, own_columns, rows_beside, rows_put}
use Rattle.msi_spec.specs.Package.{objects, stream_name, PackageContent}
use Rattle.msi_spec.specs.Streams.{without_stream}
use Rattle.msi_pool.specs.Pool.{Pool}
use Rattle.msi_rewritten.specs.Rewriting.{HasPut}
use Rattle.msi_tables.specs.Rows.{kinds_of, rows_of, IsStored, Row}
use Rattle.msi_tables.specs.Schema.{columns_columns, columns_name, tables_columns, tables_name, validation_name}
use Rattle.msi_tables.specs.Table.{Table}

-- the package without the tables of a name, with these rows in _Columns, _Tables and _Validation, and this pool
abbrev pub without_table : PackageContent → List ℕ → Pool → List Row → List Row → List Row → PackageContent
without_table P name pool c t v = record P {
  pool = pool;
  tables = rows_put columns_name c (rows_put tables_name t (rows_put validation_name v (filter (λ u. not (bytes_eq u.name name)) P.tables)));
}

-- a table may be dropped: this one, which leaves this pool; and these are the rows of the three that don't speak of it, as they are stored
pub record IsDropping (P : PackageContent) (name : List ℕ) (x : Table × Pool) (c t v : List Row) : Type 0 where
  pub accepted : dropped P name ≡ Ok x
  pub columns : IsStored columns_columns (rows_beside P columns_name name) c
  pub tables : IsStored tables_columns (rows_beside P tables_name name) t
  pub validation : IsStored (own_columns P) (rows_beside P validation_name name) v

-- the second tree is the first, but for the streams of four tables: three have these bytes, and the one of the name is gone
pub record HasDropped (letters : CaseTable) (name columns_bytes tables_bytes validation_bytes : List ℕ) (old new : Tree) : Type 0 where
  pub first : Tree
  pub second : Tree
  pub third : Tree
  pub columns : HasPut letters columns_name columns_bytes old first
  pub tables : HasPut letters tables_name tables_bytes first second
  pub validation : HasPut letters validation_name validation_bytes second third
  pub root : new.root ≡ third.root
  pub rest : objects new.content ≡ without_stream letters (stream_name name) (objects third.content)

-- the bytes of the three are read as these rows
pub record AreRead (P : PackageContent) (columns_bytes tables_bytes validation_bytes : List ℕ) (c t v : List Row) : Type 0 where
  pub columns : rows_of P.pool.long (kinds_of columns_columns) columns_bytes ≡ Some c
  pub tables : rows_of P.pool.long (kinds_of tables_columns) tables_bytes ≡ Some t
  pub validation : rows_of P.pool.long (kinds_of (own_columns P)) validation_bytes ≡ Some v
