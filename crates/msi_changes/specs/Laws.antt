-- What the laws of changed tables speak of: the uses of texts, and rows as they are read.
use Rattle.std.specs.Prelude.{◌≡◌, ◌<◌, ◌==◌, ◌+◌, ◌||◌, ℕ, Option, Bool, true, false, not, List, ◌++◌, map, filter, length, sum_by, count_by}
use Rattle.std.specs.List.{list_all}
use Rattle.msi_values.specs.Datum.{Datum}
use Rattle.msi_pool.specs.Pool.{Pool, pool_entry_at}
use Rattle.msi_pool.specs.PoolKept.{AreFreeEmpty}
use Rattle.msi_pool.specs.Refs.{is_counted}
use Rattle.msi_pool.specs.declared.stringref.ValueRef.{ValueRef}
use Rattle.msi_pool.specs.declared.stringref.ValueRef.TheVariants as cell
use Rattle.msi_columns.specs.Column.{Column}
use Rattle.msi_tables.specs.Rows.{AreRowsWritable, HaveCells, Row}
use Rattle.msi_tables.specs.Table.{Table, are_distinct, keys_of, row_data}
use Rattle.msi_expr.specs.Formula.{Formula}
use Rattle.msi_expr.specs.Conditions.{matches}
use Rattle.msi_changes.specs.Changes.{sets_key, values_after}

-- the pool keeps its page and the width of its references, and no text comes to stand at a free place
pub record KeepsPlaces (old new : Pool) : Type 0 where
  pub page : new.page ≡ old.page
  pub long : new.long ≡ old.long
  pub empty : AreFreeEmpty old.places → AreFreeEmpty new.places

-- rows that can be written are left such rows, and the pool is kept
pub record KeepsShape (pool : Pool) (t : Table) (after : List Row × Pool) : Type 0 where
  pub writable : AreRowsWritable pool.long t.columns t.rows → AreRowsWritable pool.long t.columns after.0
  pub kept : KeepsPlaces pool after.1

-- each text of these rows has a use in the pool
abbrev pub RowsAreCounted : Pool → List Row → Type 0
RowsAreCounted pool rows = list_all (λ row. list_all (is_counted pool) row) rows ≡ true

-- the table is read with these rows behind its own, and no key stands twice
pub record AddsRows (pool : Pool) (t : Table) (new_rows : List (List Datum)) (after : List Row × Pool) : Type 0 where
  pub rows : map (row_data after.1) after.0 ≡ map (row_data pool) t.rows ++ new_rows
  pub distinct : are_distinct (keys_of after.1 (record t { rows = after.0 })) ≡ true

-- whether the cell names the place
abbrev pub names_place : ℕ → ValueRef → Bool
names_place n (cell.Str m) = m == n
names_place n cell.Null = false
names_place n (cell.Int z) = false
names_place n cell.Binary = false

-- how many cells of these rows name the place
abbrev pub uses_in : List Row → ℕ → ℕ
uses_in rows n = sum_by (λ row. count_by (names_place n) row) rows

-- Each row has a cell for each column; no cell names place 0, and each other place has the uses that these cells make of it, and so many others.
pub record RefcountsMatchRows (columns : List Column) (others : ℕ → ℕ) (pool : Pool) (rows : List Row) : Type 0 where
  pub cells : HaveCells (length columns) rows
  pub none : uses_in rows 0 ≡ 0
  pub counts : (n : ℕ) → 0 < n → (pool_entry_at pool.places n).count ≡ uses_in rows n + others n

-- the texts that others use stay
abbrev pub OthersStay : (ℕ → ℕ) → Pool → Pool → Type 0
OthersStay others old new = (n : ℕ) → 0 < n → 0 < others n → (pool_entry_at new.places n).text ≡ (pool_entry_at old.places n).text

-- the uses still are those of the rows, and others were let alone
pub record KeepsUses (pool : Pool) (columns : List Column) (others : ℕ → ℕ) (after : List Row × Pool) : Type 0 where
  pub uses : RefcountsMatchRows columns others after.1 after.0
  pub stays : OthersStay others pool after.1

-- the rows that match are read with the new values, the others as before; keys are distinct where they were, or where a column of the key is set
pub record SetsCells (pool : Pool) (t : Table) (sets : List (List ℕ × Datum)) (condition : Option Formula) (after : List Row × Pool) : Type 0 where
  pub rows : map (row_data after.1) after.0 ≡ map (values_after pool t.columns sets condition) t.rows
  pub distinct : (sets_key t.columns sets || are_distinct (keys_of pool t)) ≡ true → are_distinct (keys_of after.1 (record t { rows = after.0 })) ≡ true

-- the rows that don't match are left and read as before, and distinct keys stay distinct
pub record LeavesRows (pool : Pool) (t : Table) (condition : Option Formula) (after : List Row × Pool) : Type 0 where
  pub rows : map (row_data after.1) after.0 ≡ map (row_data pool) (filter (λ row. not (matches pool t.columns condition row)) t.rows)
  pub distinct : are_distinct (keys_of pool t) ≡ true → are_distinct (keys_of after.1 (record t { rows = after.0 })) ≡ true

-- rows as they are stored: the same uses of texts, and keys as distinct
pub record StoredAlike (pool : Pool) (t : Table) (stored : List Row) : Type 0 where
  pub uses : (others : ℕ → ℕ) → RefcountsMatchRows t.columns others pool t.rows → RefcountsMatchRows t.columns others pool stored
  pub distinct : are_distinct (keys_of pool t) ≡ true → are_distinct (keys_of pool (record t { rows = stored })) ≡ true
