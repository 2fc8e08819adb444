-- Rows of a table that are stored, and read as they were.
use Rattle.std.specs.Prelude.{◌≡◌, ℕ, ◌<◌, ◌≤◌, Bool, IsTrue, List, Some, All, length}
use Rattle.std.specs.List.{list_all}
use Rattle.msi_columns.specs.Column.{Column}
use Rattle.msi_tables.specs.Rows.{AreRowsWritable, Row, has_place, kinds_of, max_rows, rows_bytes, rows_of}

-- a table with these columns can store these rows: cells in memory name places that three bytes hold
pub record CanBeStored (long : Bool) (columns : List Column) (rows : List Row) : Type 0 where
  pub columns_there : 0 < length columns
  pub few : length rows ≤ max_rows
  pub writable : AreRowsWritable long columns rows
  pub places : All (λ row. IsTrue (list_all has_place row)) rows

-- the rows have bytes, and are what the bytes are read as
pub record RowsRoundTrip (long : Bool) (columns : List Column) (stored : List Row) : Type 0 where
  pub bytes : List ℕ
  pub written : rows_bytes long (kinds_of columns) stored ≡ Some bytes
  pub read : rows_of long (kinds_of columns) bytes ≡ Some stored
