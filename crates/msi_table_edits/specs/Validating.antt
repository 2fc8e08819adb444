-- A package without a table _Validation that gets an empty one, which the tables that are there describe.
use Rattle.std.specs.Prelude.{◌≡◌, ℕ, ◌+◌, Bool, not, ◌&&◌, List, [], ◌∷◌, ◌++◌, map, length, nat_le, nat_lt, None, Some, Ok, Result, All, IsTrue, is_none}
use Rattle.std.specs.List.{list_all}
use Rattle.cfb_medium.specs.declared.error.Error.{Error}
use Rattle.cfb_medium.specs.declared.error.Error.TheVariants.{AlreadyExists, InvalidInput}
use Rattle.cfb_tree.specs.Names.{CaseTable}
use Rattle.cfb_tree.specs.Tree.{Tree}
use Rattle.msi_changes.specs.Changes.{rows_counted}
use Rattle.msi_columns.specs.Column.{Column}
use Rattle.msi_spec.specs.RoundTrips.{RowsRoundTrip}
use Rattle.msi_spec.specs.Calls.{has_table, new_table, rows_put, stored_rows, table_put, EndsRefusedOrBy}
use Rattle.msi_spec.specs.Package.{at_name, stream_name, PackageContent}
use Rattle.msi_pool.specs.Pool.{Pool}
use Rattle.msi_rewritten.specs.Rewriting.{HasPut}
use Rattle.msi_tables.specs.Rows.{has_place, kinds_of, max_rows, rows_of, AreRowsWritable, Row}
use Rattle.msi_tables.specs.Schema.{columns_columns, columns_name, columns_rows, tables_columns, tables_name, validation_columns, validation_name}
use Rattle.msi_tables.specs.Table.{IsStoredByKeys}
use Rattle.msi_texts.specs.Results.{◌>>=◌, unless_not}
use Rattle.msi_values.specs.Datum.{text}

-- ---- the rule

-- a column of which _Columns alone speaks
abbrev pub as_listed : Column → Column
as_listed c = record c { range = None; foreign = None; category = None; choices = [] }

-- the ten columns of a _Validation in which no row speaks of itself
abbrev pub listed_columns : List Column
listed_columns = map as_listed validation_columns

-- the rows of _Columns and _Tables with those behind that list a table, and the pool; or the refusal
abbrev pub listing : PackageContent → List ℕ → List Column → Result ((List Row × List Row) × Pool) Error
listing P name columns =
    unless_not (nat_le (length (stored_rows P columns_name) + length columns) max_rows && nat_lt (length (stored_rows P tables_name)) max_rows) InvalidInput >>= λ _.
    rows_counted P.pool (columns_rows name 1 columns) >>= λ c.
    rows_counted c.1 ((text name ∷ []) ∷ []) >>= λ t.
    Ok ((stored_rows P columns_name ++ c.0, stored_rows P tables_name ++ t.0), t.1)

-- those of a new _Validation, or the first refusal, where at_free_name tells that no root storage stands at its encoded name
abbrev pub validated : Bool → PackageContent → Result ((List Row × List Row) × Pool) Error
validated at_free_name P =
    unless_not (not (has_table P validation_name) && at_free_name) AlreadyExists >>= λ _.
    listing P validation_name listed_columns

-- the package with an empty _Validation, these rows in _Columns and _Tables, and this pool
abbrev pub with_validation : PackageContent → Pool → List Row → List Row → PackageContent
with_validation P pool c t = record P {
  pool = pool;
  tables = rows_put columns_name c (rows_put tables_name t (table_put (new_table validation_name listed_columns) P.tables));
}

-- an empty _Validation, where the package has none
abbrev pub Validates : CaseTable → PackageContent → PackageContent → Result (Unit {0}) Error → Type 0
Validates letters P Q answer =
    EndsRefusedOrBy (validated (is_none (at_name letters P.storages (stream_name validation_name))) P) P Q answer
    (λ x. (c : List Row) × (t : List Row) × IsStoredByKeys x.1 columns_columns x.0.0 c × IsStoredByKeys x.1 tables_columns x.0.1 t × (Q ≡ with_validation P x.1 c t))

-- ---- the tree that stores it

-- it is accepted, and these are the rows of the two tables in the order in which they are stored
pub record IsValidated (letters : CaseTable) (P : PackageContent) (pool : Pool) (c t : List Row) : Type 0 where
  pub rows : List Row × List Row
  pub told : validated (is_none (at_name letters P.storages (stream_name validation_name))) P ≡ Ok (rows, pool)
  pub columns_stored : IsStoredByKeys pool columns_columns rows.0 c
  pub tables_stored : IsStoredByKeys pool tables_columns rows.1 t

-- the second tree is the first, but for the streams of _Columns and _Tables, which have these bytes
pub record HasPutTwo (letters : CaseTable) (columns_bytes tables_bytes : List ℕ) (old new : Tree) : Type 0 where
  pub first : Tree
  pub columns : HasPut letters columns_name columns_bytes old first
  pub tables : HasPut letters tables_name tables_bytes first new

-- the rows are what the bytes are read as
pub record AreReadTwo (P : PackageContent) (columns_bytes tables_bytes : List ℕ) (c t : List Row) : Type 0 where
  pub columns : rows_of P.pool.long (kinds_of columns_columns) columns_bytes ≡ Some c
  pub tables : rows_of P.pool.long (kinds_of tables_columns) tables_bytes ≡ Some t

-- rows of the two that their streams can hold
pub record CanBeStoredTwo (P : PackageContent) (rows : List Row × List Row) : Type 0 where
  pub columns : AreRowsWritable P.pool.long columns_columns rows.0
  pub tables : AreRowsWritable P.pool.long tables_columns rows.1
  pub columns_places : All (λ row. IsTrue (list_all has_place row)) rows.0
  pub tables_places : All (λ row. IsTrue (list_all has_place row)) rows.1

-- they come back from their bytes
pub record ComeBackTwo (P : PackageContent) (c t : List Row) : Type 0 where
  pub columns : RowsRoundTrip P.pool.long columns_columns c
  pub tables : RowsRoundTrip P.pool.long tables_columns t
