-- A query on the rows of one table, and what it comes to before anything is written.
use Rattle.std.specs.Prelude.{◌≡◌, ◌⊎◌, ℕ, Bool, List, None, Some, Ok, Err, All, IsTrue, MatchResult, Option, Result, Vec}
use Rattle.std.specs.List.{list_all}
use Rattle.std.specs.declared.alloc.Global.{Global}
use Rattle.cfb_medium.specs.declared.error.Error.{Error}
use Rattle.cfb_medium.specs.declared.error.Error.TheVariants.{Memory}
use Rattle.msi_columns.specs.Column.{Column}
use Rattle.msi_changes.specs.Applied.{with_rows}
use Rattle.msi_changes.specs.Changes.{deleted, inserted, updated}
use Rattle.msi_changes.specs.Laws.{RowsAreCounted}
use Rattle.msi_changes.specs.Prepared.{pool_after}
use Rattle.msi_changes.specs.Said.{delete_condition, insert_rows, update_condition, update_sets}
use Rattle.msi_row_edits.specs.declared.query.RowsQuery.{RowsQuery}
use Rattle.msi_row_edits.specs.declared.query.RowsQuery.TheVariants as held
use Rattle.msi_expr.specs.Formula.{Formula}
use Rattle.msi_spec.specs.Calls.{may_insert, may_update, Deletes, Inserts, Updates}
use Rattle.msi_pool.specs.Pool.{Pool}
use Rattle.msi_pool.specs.PoolState.{PoolState}
use Rattle.msi_pool.specs.declared.draft.PoolChanges.{PoolChanges}
use Rattle.msi_stored.specs.Changing.{PackageRule}
use Rattle.msi_tables.specs.Rows.{has_place, kinds_of, rows_bytes, AreRowsWritable, IsStored, Row}
use Rattle.msi_tables.specs.Table.{Heading, IsStoredByKeys, Table}
use Rattle.msi_values.specs.Datum.{Datum}

-- new rows; new values in the rows that a condition takes; or these rows are deleted
pub data RowsAsked : Type 0 where
  inserting : List (List Datum) → RowsAsked
  updating : List (List ℕ × Datum) → Option Formula → RowsAsked
  deleting : Option Formula → RowsAsked

-- what a query in memory asks for
abbrev pub asked : RowsQuery → RowsAsked
asked (held.Insert i) = inserting (insert_rows i.now)
asked (held.Update u) = updating (update_sets u.now) (update_condition u.now)
asked (held.Delete d) = deleting (delete_condition d.now)

-- what it makes of the rows of a table of this name, and of the pool, or its refusal
abbrev pub rows_after : RowsAsked → List ℕ → Pool → Table → Result (List Row × Pool) Error
rows_after (inserting new_rows) name pool t = inserted (may_insert name) pool t new_rows
rows_after (updating sets condition) name pool t = updated (may_update name t.columns sets) pool t sets condition
rows_after (deleting condition) name pool t = deleted (may_insert name) pool t condition

-- how these rows are stored
abbrev pub IsStoredFor : RowsAsked → Pool → List Column → List Row → List Row → Type 0
IsStoredFor (inserting new_rows) pool columns rows stored = IsStoredByKeys pool columns rows stored
IsStoredFor (updating sets condition) pool columns rows stored = IsStored columns rows stored
IsStoredFor (deleting condition) pool columns rows stored = IsStored columns rows stored

-- its rule
abbrev pub rule_of : RowsAsked → List ℕ → PackageRule
rule_of (inserting new_rows) name P Q answer = Inserts P name new_rows Q answer
rule_of (updating sets condition) name P Q answer = Updates P name sets condition Q answer
rule_of (deleting condition) name P Q answer = Deletes P name condition Q answer

-- The query is accepted, and the pool is this one then. Its rows can be written, and the bytes are those of the rows in their stored
-- order, where the pool counts the texts of the rows that were there.
pub record IsPrepared (q : RowsAsked) (name : List ℕ) (pool : Pool) (t : Table) (bytes : List ℕ) (next : Pool) : Type 0 where
  pub rows : List Row
  pub accepted : rows_after q name pool t ≡ Ok (rows, next)
  pub places : All (λ row. IsTrue (list_all has_place row)) rows
  pub writable : AreRowsWritable pool.long t.columns rows
  pub stored : List Row
  pub order : RowsAreCounted pool t.rows → IsStoredFor q next t.columns rows stored
  pub written : rows_bytes pool.long (kinds_of t.columns) stored ≡ Some bytes

-- it is accepted so on a table of these rows, or refused; or there is another error
abbrev pub ReturnsRows : RowsAsked → Heading → PoolState → List Row → (Error → Type 0) → Result (Vec ℕ Global × PoolChanges) Error → Type 0
ReturnsRows q h state rows IsOther result =
    MatchResult result (λ r. IsPrepared q h.name state.pool (with_rows h rows) r.0.items (pool_after state r.1))
    (λ e. IsOther e ⊎ (rows_after q h.name state.pool (with_rows h rows) ≡ Err e))

-- the bytes are those of the rows in their stored order
pub record IsWrittenAs (long : Bool) (columns : List Column) (rows : List Row) (bytes : List ℕ) : Type 0 where
  pub stored : List Row
  pub is_stored : IsStored columns rows stored
  pub written : rows_bytes long (kinds_of columns) stored ≡ Some bytes

-- want of memory; or the rows can't be written
abbrev pub IsUnwritten : Bool → List Column → List Row → Error → Type 0
IsUnwritten long columns rows e = (e ≡ Memory) ⊎ ((stored : List Row) × IsStored columns rows stored × (rows_bytes long (kinds_of columns) stored ≡ None))

-- the bytes are those of the rows listed by their keys, and then in the stored order
pub record IsWrittenByKeys (pool : Pool) (long : Bool) (columns : List Column) (rows : List Row) (bytes : List ℕ) : Type 0 where
  pub stored : List Row
  pub by_keys : IsStoredByKeys pool columns rows stored
  pub written : rows_bytes long (kinds_of columns) stored ≡ Some bytes
