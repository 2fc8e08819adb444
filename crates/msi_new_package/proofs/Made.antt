-- The rows of a new package, and its pool, computed from the definitions.
use Rattle.std.proofs.Common.{◌≡◌, ◌∙◌, ℕ, zero, suc, ◌+◌, ◌<◌, ◌≤◌, Bool, true, false, List, [], ◌∷◌, length, map, refl, sym, ap, subst, arith, lit<, lit≤, Ok, Err, Result}
use Rattle.std.specs.Prelude.{◌==◌, ◌&&◌, nat_le, nat_lt, IsTrue}
use Rattle.std.specs.List.{list_all, All}
use Rattle.std.specs.List.Sorted.{IsPermutation}
use Rattle.std.proofs.lemmas.Bool.{and_parts}
use Rattle.std.proofs.lemmas.Bool.Decides.{nat_tests}
use Rattle.std.proofs.lemmas.List.Elements.{All-cons, All-nil}
use Rattle.cfb_medium.specs.declared.error.Error.{Error}
use Rattle.msi_columns.specs.Column.{Column}
use Rattle.msi_pool.specs.Pool.{pool_entry_at, PoolEntry, Pool}
use Rattle.msi_pool.specs.PoolKept.{AreFreeEmpty}
use Rattle.msi_pool.specs.declared.stringref.ValueRef.{ValueRef}
use Rattle.msi_pool.specs.declared.stringref.ValueRef.TheVariants as cell
use Rattle.msi_tables.specs.Rows.{can_write, has_place, kinds_of, numbers_from, Row}
use Rattle.msi_tables.specs.Schema.{columns_columns, columns_rows, tables_columns, validation_columns, validation_name, validation_row}
use Rattle.msi_tables.specs.Table.{row_data, IsStoredByKeys}
use Rattle.msi_tables.proofs.Writable.{rows_move_by_keys}
use Rattle.msi_values.specs.Datum.{text}
use Rattle.msi_spec.specs.RoundTrips.{CanBeStored, RowsRoundTrip}
use Rattle.msi_spec.specs.Calls.{bare_package, described, Rows3}
use Rattle.msi_spec.specs.Sound.{IsPlaceUsed}
use Rattle.msi_spec.specs.declared.kind.PackageType.{PackageType}
use Rattle.msi_spec.specs.declared.kind.PackageType.TheVariants.{Installer}
use Rattle.msi_spec.proofs.StoredBack.{come_back}

abbrev made_in : Result (Rows3 × Pool) Error → Rows3 × Pool
made_in (Ok x) = x
made_in (Err e) = (([], [], []), (bare_package Installer).pool)

-- the rows and the pool, whatever the kind
abbrev pub made : Rows3 × Pool
made = made_in (described (bare_package Installer) validation_name validation_columns)

described_so : (kind : PackageType) → described (bare_package kind) validation_name validation_columns ≡ Ok made
described_so kind = refl

pub made_is : (kind : PackageType) (x : Rows3 × Pool) → described (bare_package kind) validation_name validation_columns ≡ Ok x → made ≡ x
made_is kind x is = ap made_in (sym (described_so kind) ∙ is)

-- ---- what the rows say

pub columns_say : map (row_data made.1) made.0.0 ≡ columns_rows validation_name 1 validation_columns
columns_say = refl

pub tables_say : map (row_data made.1) made.0.1 ≡ (text validation_name ∷ []) ∷ []
tables_say = refl

pub validation_says : map (row_data made.1) made.0.2 ≡ map (validation_row validation_name) validation_columns
validation_says = refl

-- ---- tests of each

pub all_by : {X : Type 0} (f : X → Bool) (P : X → Type 0) → ((x : X) → f x ≡ true → P x) → (xs : List X) → list_all f xs ≡ true → All P xs
all_by f P each [] h = All-nil P
all_by f P each (x ∷ xs) h = (let both = and_parts (f x) (list_all f xs) h in All-cons P x xs (each x both.0) (all_by f P each xs both.1))

-- the pool counts a use of the place
abbrev counts_cell : ValueRef → Bool
counts_cell (cell.Str n) = nat_lt 0 (pool_entry_at made.1.places n).count
counts_cell _ = true

counted_cell : (v : ValueRef) → counts_cell v ≡ true → IsPlaceUsed made.1 v
counted_cell cell.Null h = tt
counted_cell (cell.Int z) h = tt
counted_cell (cell.Str n) h = grind (arith, nat_tests, h)
counted_cell cell.Binary h = tt

pub used_rows : (rows : List Row) → list_all (list_all counts_cell) rows ≡ true → All (All (IsPlaceUsed made.1)) rows
used_rows = all_by (list_all counts_cell) (All (IsPlaceUsed made.1)) (all_by counts_cell (IsPlaceUsed made.1) counted_cell)

pub free_empty : AreFreeEmpty made.1.places
free_empty = all_by (λ p. nat_lt 0 p.count) (λ p. p.count ≡ 0 → p.text ≡ []) used made.1.places refl
  where
    used : (p : PoolEntry) → nat_lt 0 p.count ≡ true → p.count ≡ 0 → p.text ≡ []
    used p h none = (let some : 0 < p.count = grind (arith, nat_tests, h) in absurd (omega (arith, some, none)))

pub at_number : (f : ℕ → Bool) (start m : ℕ) → list_all f (numbers_from start m) ≡ true → (n : ℕ) → start ≤ n → n < start + m → f n ≡ true
at_number f start zero h n low high = absurd (omega (arith, low, high))
at_number f start (suc m) h n low high = by (nat_le (suc start) n) refl (at_number f (suc start) m both.1 n)
  where
    both : (f start ≡ true) × (list_all f (numbers_from (suc start) m) ≡ true)
    both = and_parts (f start) (list_all f (numbers_from (suc start) m)) h

    by : (b : Bool) → nat_le (suc start) n ≡ b → (suc start ≤ n → n < suc start + m → f n ≡ true) → f n ≡ true
    by true is rest = (let above : suc start ≤ n = grind (arith, nat_tests) in rest above (omega (arith, high)))
    by false is rest = (let below : n < suc start = grind (arith, nat_tests) in let same : start ≡ n = omega (arith, low, below) in subst (λ k. f k ≡ true) same both.0)

-- ---- the rows are stored

-- it has so many cells, each can be written, and each has its place
abbrev is_storable : List Column → Row → Bool
is_storable columns row = (length row == length columns) && can_write false (kinds_of columns) row && list_all has_place row

storable : (columns : List Column) → 0 < length columns → (rows : List Row) → length rows ≤ 65536 → list_all (is_storable columns) rows ≡ true → CanBeStored false columns rows
storable columns there rows few h = record {
  columns_there = there;
  few = few;
  writable = record {
    cells = all_by (is_storable columns) (λ row. length row ≡ length columns) wide rows h;
    numbers = all_by (is_storable columns) (λ row. IsTrue (can_write false (kinds_of columns) row)) (λ row e. (parts row e).1) rows h;
  };
  places = all_by (is_storable columns) (λ row. IsTrue (list_all has_place row)) (λ row e. (parts row e).2) rows h;
}
  where
    parts : (row : Row) → is_storable columns row ≡ true → ((length row == length columns) ≡ true) × (can_write false (kinds_of columns) row ≡ true) × (list_all has_place row ≡ true)
    parts row e =
        let a = and_parts ((length row == length columns) && can_write false (kinds_of columns) row) (list_all has_place row) e in
        let b = and_parts (length row == length columns) (can_write false (kinds_of columns) row) a.0 in
        (b.0, b.1, a.1)

    wide : (row : Row) → is_storable columns row ≡ true → length row ≡ length columns
    wide row e = (let h = (parts row e).0 in grind (arith, nat_tests, h))

pub columns_storable : CanBeStored false columns_columns made.0.0
columns_storable = storable columns_columns (lit< tt) made.0.0 (lit≤ tt) refl

pub tables_storable : CanBeStored false tables_columns made.0.1
tables_storable = storable tables_columns (lit< tt) made.0.1 (lit≤ tt) refl

pub validation_storable : CanBeStored false validation_columns made.0.2
validation_storable = storable validation_columns (lit< tt) made.0.2 (lit≤ tt) refl

module _ (c t v : List Row) (columns : IsStoredByKeys made.1 columns_columns made.0.0 c) (tables : IsStoredByKeys made.1 tables_columns made.0.1 t)
    (validation : IsStoredByKeys made.1 validation_columns made.0.2 v) where
  pub c_moved : IsPermutation made.0.0 c
  c_moved = rows_move_by_keys made.1 columns_columns made.0.0 c columns

  pub t_moved : IsPermutation made.0.1 t
  t_moved = rows_move_by_keys made.1 tables_columns made.0.1 t tables

  pub v_moved : IsPermutation made.0.2 v
  v_moved = rows_move_by_keys made.1 validation_columns made.0.2 v validation

  pub rows_back : RowsRoundTrip false columns_columns c × RowsRoundTrip false tables_columns t × RowsRoundTrip false validation_columns v
  rows_back = (
    come_back false columns_columns made.0.0 c c_moved columns_storable,
    come_back false tables_columns made.0.1 t t_moved tables_storable,
    come_back false validation_columns made.0.2 v v_moved validation_storable,
  )
