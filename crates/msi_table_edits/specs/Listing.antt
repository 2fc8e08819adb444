-- What an empty _Validation comes to before anything is written.
use Rattle.std.specs.Prelude.{◌≡◌, ◌&&◌, ◌+◌, ◌++◌, ◌⊎◌, Bool, true, List, [], ◌∷◌, map, length, is_none, nat_le, nat_lt, Err, MatchResult, Ok, Result, Some}
use Rattle.std.specs.List.{list_all}
use Rattle.std.specs.Rc.{rc_value}
use Rattle.cfb_tree_edits.specs.LiveTreeRules.{IsFaultOrFull}
use Rattle.cfb_medium.specs.declared.error.Error.{Error}
use Rattle.cfb_tree.specs.Names.{CaseTable}
use Rattle.msi_changes.specs.Changes.{rows_counted}
use Rattle.msi_changes.specs.Prepared.{pool_after}
use Rattle.msi_columns.specs.Column.{are_valid}
use Rattle.msi_spec.specs.Calls.{new_table, stored_rows, table_put}
use Rattle.msi_spec.specs.Package.{at_name, stream_name, PackageContent}
use Rattle.msi_parts.specs.Parts.{heading}
use Rattle.msi_pool.specs.Pool.{Pool}
use Rattle.msi_pool.specs.PoolState.{PoolState}
use Rattle.msi_schema.specs.Headings.{headings_in}
use Rattle.msi_tables.specs.Held.{heading_of, rows_held}
use Rattle.msi_tables.specs.Rows.{kinds_of, max_rows, rows_bytes, AreRowsWritable, Row}
use Rattle.msi_tables.specs.Schema.{columns_columns, columns_name, columns_rows, tables_columns, tables_name, validation_name}
use Rattle.msi_texts.specs.Results.{◌>>=◌}
use Rattle.msi_values.specs.Datum.{text, Datum}
use Rattle.msi_table_edits.specs.Describing.{rows_of_values}
use Rattle.msi_table_edits.specs.Validating.{listed_columns, validated, AreReadTwo, IsValidated}
use Rattle.msi_table_edits.specs.declared.listing.ListingRows.{ListingRows}
use Rattle.msi_table_edits.specs.declared.listing.ListingTables.{ListingTables}
use Rattle.msi_table_edits.specs.declared.listing.NewListing.{NewListing}

-- the rows of two tables as cells, with their texts counted one table after the other
abbrev pub two_counted : Pool → List (List Datum) → List (List Datum) → Result ((List Row × List Row) × Pool) Error
two_counted pool columns tables =
    rows_counted pool columns >>= λ c.
    rows_counted c.1 tables >>= λ t. Ok ((c.0, t.0), t.1)

-- the values of the rows that list a _Validation
pub record AreListingRows (it : ListingRows) : Type 0 where
  pub columns_said : rows_of_values it.columns.items ≡ columns_rows validation_name 1 listed_columns
  pub tables_said : rows_of_values it.tables.items ≡ (text validation_name ∷ []) ∷ []

-- these are the package's _Columns and _Tables, with their rows
pub record AreListing (P : PackageContent) (it : ListingTables) : Type 0 where
  pub columns : heading_of (rc_value it.columns) ≡ record { name = columns_name; columns = columns_columns; long = P.pool.long }
  pub tables : heading_of (rc_value it.tables) ≡ record { name = tables_name; columns = tables_columns; long = P.pool.long }
  pub columns_rows : rows_held it.columns_rows.items ≡ stored_rows P columns_name
  pub tables_rows : rows_held it.tables_rows.items ≡ stored_rows P tables_name

-- the rows of each can be written in it
pub record AreWideTwo (it : ListingTables) : Type 0 where
  pub columns : AreRowsWritable (heading_of (rc_value it.columns)).long (heading_of (rc_value it.columns)).columns (rows_held it.columns_rows.items)
  pub tables : AreRowsWritable (heading_of (rc_value it.tables)).long (heading_of (rc_value it.tables)).columns (rows_held it.tables_rows.items)

-- each takes the new rows, and its references are so wide
pub record TakeRows (long : Bool) (it : ListingTables) (new : ListingRows) : Type 0 where
  pub columns : list_all (are_valid (heading_of (rc_value it.columns)).columns) (rows_of_values new.columns.items) ≡ true
  pub tables : list_all (are_valid (heading_of (rc_value it.tables)).columns) (rows_of_values new.tables.items) ≡ true
  pub columns_wide : (heading_of (rc_value it.columns)).long ≡ long
  pub tables_wide : (heading_of (rc_value it.tables)).long ≡ long

-- _Columns and _Tables have room for the new rows
abbrev pub fits_listing : PackageContent → Bool
fits_listing P = nat_le (length (stored_rows P columns_name) + length listed_columns) max_rows && nat_lt (length (stored_rows P tables_name)) max_rows

module _ (letters : CaseTable) (P : PackageContent) where
  -- the definition's answer
  abbrev pub answer : Result ((List Row × List Row) × Pool) Error
  answer = validated (is_none (at_name letters P.storages (stream_name validation_name))) P

  -- what is left of it where all tests are passed: the rows are counted
  abbrev pub counting : Result ((List Row × List Row) × Pool) Error
  counting =
      two_counted P.pool (columns_rows validation_name 1 listed_columns) ((text validation_name ∷ []) ∷ []) >>= λ x.
      Ok ((stored_rows P columns_name ++ x.0.0, stored_rows P tables_name ++ x.0.1), x.1)

  -- It is accepted, with the pool that these changes leave; the bytes are those of the rows of the two tables as they are stored, and the
  -- tables in memory have it among them.
  pub record IsListed (state : PoolState) (it : NewListing) : Type 0 where
    pub c : List Row
    pub t : List Row
    pub accepted : IsValidated letters P (pool_after state it.changes) c t
    pub read : AreReadTwo P it.columns_bytes.items it.tables_bytes.items c t
    pub tables : headings_in it.tables.items ≡ map (heading P.pool.long) (table_put (new_table validation_name listed_columns) P.tables)
    pub written : rows_bytes P.pool.long (kinds_of columns_columns) c ≡ Some it.columns_bytes.items

  -- it is so, or refused as the definition says, or there was a fault
  abbrev pub TellsListed : PoolState → Result NewListing Error → Type 0
  TellsListed state result = MatchResult result (IsListed state) (λ e. IsFaultOrFull e ⊎ (answer ≡ Err e))
