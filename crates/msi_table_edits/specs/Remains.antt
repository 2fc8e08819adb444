-- What is left of rows where those that speak of a table are taken out, before anything is written.
use Rattle.std.specs.Prelude.{◌≡◌, ◌⊎◌, ◌≤◌, ◌&&◌, ◌++◌, ℕ, not, filter, flat_map, length, map, true, false, Bool, List, None, Some, All, IsTrue, MatchResult, Ok, Err, Result, Vec}
use Rattle.std.specs.List.{list_all}
use Rattle.std.specs.declared.alloc.Global.{Global}
use Rattle.cfb_medium.specs.Calls.{IsFaultOrInvalidInputIf}
use Rattle.cfb_medium.specs.declared.error.Error.{Error}
use Rattle.cfb_medium.specs.declared.error.Error.TheVariants.{InvalidInput, NotFound}
use Rattle.msi_changes.specs.Changes.{all_taken_back}
use Rattle.msi_changes.specs.Prepared.{pool_after}
use Rattle.msi_columns.specs.Column.{Column}
use Rattle.msi_spec.specs.Calls.{dropped, is_system, speaks_of}
use Rattle.msi_spec.specs.Package.{PackageContent}
use Rattle.msi_parts.specs.Judged.{heading_named}
use Rattle.msi_parts.specs.Parts.{heading}
use Rattle.msi_pool.specs.Pool.{Pool}
use Rattle.msi_pool.specs.PoolState.{PoolState}
use Rattle.msi_tables.specs.Rows.{has_place, kinds_of, max_rows, rows_bytes, AreRowsWritable, IsStored, Row}
use Rattle.msi_tables.specs.Schema.{columns_columns, validation_name}
use Rattle.msi_tables.specs.Table.{is_valid_table_name, Heading, Table}
use Rattle.msi_table_edits.specs.Dropping.{AreRead, IsDropping}
use Rattle.msi_table_edits.specs.declared.remaining.SystemBytes.{SystemBytes}
use Rattle.msi_pool.specs.declared.draft.PoolChanges.{PoolChanges}

-- a table of this name may be dropped, if it is there
abbrev pub may_drop : List ℕ → Bool
may_drop name = not (is_system name) && is_valid_table_name name

-- the table that is dropped and _Validation, without their rows
pub record AreDropTablesFound (headings : List Heading) (name : List ℕ) (own validation : Heading) : Type 0 where
  pub allowed : may_drop name ≡ true
  pub own_is : heading_named headings name ≡ Some own
  pub validation_is : heading_named headings validation_name ≡ Some validation

-- why they aren't found, in this order
abbrev pub AreMissing : List Heading → List ℕ → Error → Type 0
AreMissing headings name e =
    ((e ≡ InvalidInput) × (may_drop name ≡ false))
    ⊎ ((e ≡ NotFound) × (may_drop name ≡ true) × ((heading_named headings name ≡ None) ⊎ (heading_named headings validation_name ≡ None)))

-- the uses of all cells of these rows are taken back from a pool; or they can't be, or there is a fault
abbrev pub RefcountsReleased : {T : Type 0} → List Row → Pool → Pool → Result T Error → Type 0
RefcountsReleased rows before after result =
    MatchResult result (λ _. all_taken_back before (flat_map (λ row. row) rows) ≡ Ok after)
    (λ e. IsFaultOrInvalidInputIf ⊥ e ⊎ (all_taken_back before (flat_map (λ row. row) rows) ≡ Err e))

-- a table with these columns can store the rows
pub record CanLay (long : Bool) (columns : List Column) (rows : List Row) : Type 0 where
  pub few : length rows ≤ max_rows
  pub writable : AreRowsWritable long columns rows

-- so it can, and the bytes are those of the rows as they are stored
pub record IsLaid (long : Bool) (columns : List Column) (rows : List Row) (bytes : List ℕ) : Type 0 where
  pub can : CanLay long columns rows
  pub places : All (λ row. IsTrue (list_all has_place row)) rows
  pub stored : List Row
  pub is_stored : IsStored columns rows stored
  pub written : rows_bytes long (kinds_of columns) stored ≡ Some bytes

-- the rows of the table that don't speak of one of the name, as bytes; the uses of the others are taken back
abbrev pub LeavesBytes : Pool → List ℕ → Heading → List Row → Pool → Pool → Result (Vec ℕ Global) Error → Type 0
LeavesBytes pool name h rows before after result =
    MatchResult result
    (λ bytes. (all_taken_back before (flat_map (λ row. row) (filter (speaks_of pool name) rows)) ≡ Ok after) × IsLaid h.long h.columns (filter (λ row. not (speaks_of pool name row)) rows) bytes.items)
    (λ e. IsFaultOrInvalidInputIf ⊥ e ⊎ (all_taken_back before (flat_map (λ row. row) (filter (speaks_of pool name) rows)) ≡ Err e))

-- the rows whose uses are taken back: all of a table, and those of three others that speak of it
abbrev pub taken_rows : Pool → List ℕ → List Row → List Row → List Row → List Row → List Row
taken_rows pool name own v c t = own ++ filter (speaks_of pool name) v ++ filter (speaks_of pool name) c ++ filter (speaks_of pool name) t

-- the other rows of these three, as bytes
pub record AreLaid (pool : Pool) (name : List ℕ) (hv hc ht : Heading) (v c t : List Row) (bytes : SystemBytes) : Type 0 where
  pub validation : IsLaid hv.long hv.columns (filter (λ row. not (speaks_of pool name row)) v) bytes.validation.items
  pub columns : IsLaid hc.long hc.columns (filter (λ row. not (speaks_of pool name row)) c) bytes.columns.items
  pub tables : IsLaid ht.long ht.columns (filter (λ row. not (speaks_of pool name row)) t) bytes.tables.items

-- both; or the uses can't be taken back, or there is a fault
abbrev pub TellsBytes : PoolState → List ℕ → Heading → Heading → Heading → List Row → List Row → List Row → List Row → Result (SystemBytes × PoolChanges) Error → Type 0
TellsBytes state name hv hc ht own v c t result =
    MatchResult result
    (λ r. (all_taken_back state.pool (flat_map (λ row. row) (taken_rows state.pool name own v c t)) ≡ Ok (pool_after state r.1)) × AreLaid state.pool name hv hc ht v c t r.0)
    (λ e. IsFaultOrInvalidInputIf ⊥ e ⊎ (all_taken_back state.pool (flat_map (λ row. row) (taken_rows state.pool name own v c t)) ≡ Err e))

-- pool and tables in memory are those of the package, the tables without their rows
pub record MemoryLacksDropped (headings : List Heading) (held : Pool) (P : PackageContent) : Type 0 where
  pub pool : held ≡ P.pool
  pub tables : headings ≡ map (heading P.pool.long) P.tables

-- the table may be dropped, which leaves this pool, and the bytes are those of the rows that are left
pub record AreRemains (P : PackageContent) (name columns_bytes tables_bytes validation_bytes : List ℕ) (next : Pool) : Type 0 where
  pub table : Table
  pub columns : List Row
  pub tables : List Row
  pub validation : List Row
  pub drops : IsDropping P name (table, next) columns tables validation
  pub read : AreRead P columns_bytes tables_bytes validation_bytes columns tables validation
  pub written : rows_bytes P.pool.long (kinds_of columns_columns) columns ≡ Some columns_bytes

-- so it is; or it is refused so, or there is a fault
abbrev pub TellsRemains : PackageContent → List ℕ → PoolState → Result (SystemBytes × PoolChanges) Error → Type 0
TellsRemains P name state result =
    MatchResult result (λ r. AreRemains P name r.0.columns.items r.0.tables.items r.0.validation.items (pool_after state r.1)) (λ e. IsFaultOrInvalidInputIf ⊥ e ⊎ (dropped P name ≡ Err e))
