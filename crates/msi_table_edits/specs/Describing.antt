-- What a new table comes to before anything is written.
use Rattle.std.specs.Prelude.{◌≡◌, ◌&&◌, ◌++◌, ◌⊎◌, ℕ, Bool, true, not, List, [], ◌∷◌, map, bytes_eq, is_none, Err, IsSome, MatchResult, Ok, Result, Some, Vec}
use Rattle.std.specs.List.{list_all, list_any}
use Rattle.std.specs.Rc.{rc_value}
use Rattle.std.specs.declared.alloc.Global.{Global}
use Rattle.cfb_tree_edits.specs.LiveTreeRules.{IsFaultOrFull}
use Rattle.cfb_medium.specs.declared.error.Error.{Error}
use Rattle.cfb_medium.specs.declared.error.Error.TheVariants.{AlreadyExists, InvalidInput}
use Rattle.cfb_tree.specs.Names.{CaseTable}
use Rattle.msi_changes.specs.Prepared.{pool_after}
use Rattle.msi_columns.specs.Column.{are_valid, Column}
use Rattle.msi_spec.specs.Calls.{created, described, is_kept, new_table, own_columns, stored_rows, table_put, Rows3}
use Rattle.msi_spec.specs.Package.{at_name, data_name, pool_name, stream_name, PackageContent}
use Rattle.msi_parts.specs.Parts.{heading}
use Rattle.msi_pool.specs.Pool.{Pool}
use Rattle.msi_pool.specs.PoolState.{PoolState}
use Rattle.msi_schema.specs.Headings.{headings_in}
use Rattle.msi_tables.specs.Held.{heading_of, rows_held}
use Rattle.msi_tables.specs.Rows.{kinds_of, rows_bytes, AreRowsWritable, Row}
use Rattle.msi_tables.specs.Schema.{columns_columns, columns_name, columns_rows, tables_columns, tables_name, validation_name, validation_row}
use Rattle.msi_tables.specs.Table.{has_key, keys_of, table_named, Table}
use Rattle.msi_texts.specs.Results.{◌>>=◌, unless_not}
use Rattle.msi_values.specs.Datum.{data_of, text, Datum}
use Rattle.msi_values.specs.declared.value.Value.{Value}
use Rattle.msi_table_edits.specs.Created.{AreReadThree, IsNewTableAccepted}
use Rattle.msi_table_edits.specs.Testing.{three_counted}
use Rattle.msi_table_edits.specs.declared.describing.NewRows.{NewRows}
use Rattle.msi_table_edits.specs.declared.describing.NewTable.{NewTable}
use Rattle.msi_table_edits.specs.declared.describing.SystemTables.{SystemTables}

-- rows of values, as what they say
abbrev pub rows_of_values : List (Vec Value Global) → List (List Datum)
rows_of_values rows = map (λ row. data_of row.items) rows

-- the values of the rows that describe a table with these columns
pub record AreNewRows (name : List ℕ) (columns : List Column) (it : NewRows) : Type 0 where
  pub columns_said : rows_of_values it.columns.items ≡ columns_rows name 1 columns
  pub tables_said : rows_of_values it.tables.items ≡ (text name ∷ []) ∷ []
  pub validation_said : rows_of_values it.validation.items ≡ map (validation_row name) columns

-- these are the package's three tables that describe others, with their rows
pub record AreSystem (P : PackageContent) (it : SystemTables) : Type 0 where
  pub columns : heading_of (rc_value it.columns) ≡ record { name = columns_name; columns = columns_columns; long = P.pool.long }
  pub tables : heading_of (rc_value it.tables) ≡ record { name = tables_name; columns = tables_columns; long = P.pool.long }
  pub validation : heading_of (rc_value it.validation) ≡ record { name = validation_name; columns = own_columns P; long = P.pool.long }
  pub there : IsSome (table_named P.tables validation_name)
  pub columns_rows : rows_held it.columns_rows.items ≡ stored_rows P columns_name
  pub tables_rows : rows_held it.tables_rows.items ≡ stored_rows P tables_name
  pub validation_rows : rows_held it.validation_rows.items ≡ stored_rows P validation_name

-- the rows of each can be written in it
pub record AreWide (it : SystemTables) : Type 0 where
  pub columns : AreRowsWritable (heading_of (rc_value it.columns)).long (heading_of (rc_value it.columns)).columns (rows_held it.columns_rows.items)
  pub tables : AreRowsWritable (heading_of (rc_value it.tables)).long (heading_of (rc_value it.tables)).columns (rows_held it.tables_rows.items)
  pub validation : AreRowsWritable (heading_of (rc_value it.validation)).long (heading_of (rc_value it.validation)).columns (rows_held it.validation_rows.items)

-- each takes the new rows, and its references are so wide
pub record AreDescribed (long : Bool) (it : SystemTables) (new : NewRows) : Type 0 where
  pub columns : list_all (are_valid (heading_of (rc_value it.columns)).columns) (rows_of_values new.columns.items) ≡ true
  pub tables : list_all (are_valid (heading_of (rc_value it.tables)).columns) (rows_of_values new.tables.items) ≡ true
  pub validation : list_all (are_valid (heading_of (rc_value it.validation)).columns) (rows_of_values new.validation.items) ≡ true
  pub columns_wide : (heading_of (rc_value it.columns)).long ≡ long
  pub tables_wide : (heading_of (rc_value it.tables)).long ≡ long
  pub validation_wide : (heading_of (rc_value it.validation)).long ≡ long

module _ (letters : CaseTable) (P : PackageContent) (name : List ℕ) (columns : List Column) where
  -- the definition's answer
  abbrev pub answer : Result (Rows3 × Pool) Error
  answer = created (is_none (at_name letters P.storages (stream_name name))) P name columns

  -- what is left of it where all tests are passed: the rows are counted
  abbrev pub counting : Result (Rows3 × Pool) Error
  counting =
      three_counted P.pool (columns_rows name 1 columns) ((text name ∷ []) ∷ []) (map (validation_row name) columns) >>= λ x.
      Ok ((stored_rows P columns_name ++ x.0.0, stored_rows P tables_name ++ x.0.1, stored_rows P validation_name ++ x.0.2), x.1)

  -- the tests behind that on _Validation, and what follows them
  abbrev pub third_test : Table → Result (Rows3 × Pool) Error
  third_test w =
      unless_not (list_all (are_valid columns_columns) (columns_rows name 1 columns) && are_valid tables_columns (text name ∷ [])
      && list_all (are_valid w.columns) (map (validation_row name) columns)
      && not (bytes_eq name pool_name) && not (bytes_eq name data_name) && list_all is_kept columns) InvalidInput >>= λ _.
      unless_not (not (list_any (has_key (keys_of P.pool w)) (map (λ c. text name ∷ text c.name ∷ []) columns))
      && is_none (at_name letters P.storages (stream_name name))) AlreadyExists >>= λ _.
      described P name columns

  -- The new table is accepted, with the pool that these changes leave; the bytes are those of the rows of the three tables as they are
  -- stored, and the tables in memory have it among them.
  pub record TableIsAccepted (state : PoolState) (it : NewTable) : Type 0 where
    pub c : List Row
    pub t : List Row
    pub v : List Row
    pub accepted : IsNewTableAccepted letters P name columns (pool_after state it.changes) c t v
    pub read : AreReadThree P it.columns_bytes.items it.tables_bytes.items it.validation_bytes.items c t v
    pub tables : headings_in it.tables.items ≡ map (heading P.pool.long) (table_put (new_table name columns) P.tables)
    pub written : rows_bytes P.pool.long (kinds_of columns_columns) c ≡ Some it.columns_bytes.items

  -- it is so, or refused as the definition says, or there was a fault
  abbrev pub TellsNew : PoolState → Result NewTable Error → Type 0
  TellsNew state result = MatchResult result (TableIsAccepted state) (λ e. IsFaultOrFull e ⊎ (answer ≡ Err e))

  -- the tests behind that on the name are passed; or the definition's first refusal, or a fault
  abbrev pub Passes : Table → Result (Unit {0}) Error → Type 0
  Passes w result = MatchResult result (λ _. third_test w ≡ counting) (λ e. IsFaultOrFull e ⊎ (third_test w ≡ Err e))

  -- the same of the counting
  abbrev pub Describes : PoolState → Result NewTable Error → Type 0
  Describes state result = MatchResult result (λ it. answer ≡ counting → TableIsAccepted state it) (λ e. IsFaultOrFull e ⊎ (counting ≡ Err e))
