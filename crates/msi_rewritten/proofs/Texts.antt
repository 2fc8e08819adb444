-- Texts that a pool keeps, by the uses that cells make of them.
use Rattle.std.proofs.Common.{◌≡◌, ℕ, zero, suc, ◌<◌, true, cond, List, [], ◌∷◌, map, refl, ap, ap₂, arith}
use Rattle.std.specs.Prelude.{◌==◌}
use Rattle.std.specs.List.{All, sum_by}
use Rattle.std.proofs.lemmas.Bool.Decides.{nat_tests}
use Rattle.std.proofs.lemmas.List.Elements.{All-cons, All-nil}
use Rattle.std.proofs.lemmas.List.Sums.{sum_by-cons}
use Rattle.msi_changes.specs.Laws.{names_place, uses_in}
use Rattle.msi_pool.specs.Pool.{pool_entry_at, Pool}
use Rattle.msi_pool.specs.declared.stringref.ValueRef.{ValueRef}
use Rattle.msi_pool.specs.declared.stringref.ValueRef.TheVariants as cell
use Rattle.msi_pool.specs.Refs.{value_at}
use Rattle.msi_tables.specs.Rows.{Row}
use Rattle.msi_tables.specs.Table.{row_data}
use Rattle.msi_values.specs.Datum.{text}
use Rattle.msi_spec.specs.Sound.{IsPlaceUsed}

abbrev use_of : ℕ → ValueRef → ℕ
use_of n v = cond (names_place n v) 1 0

abbrev row_uses : ℕ → Row → ℕ
row_uses n row = sum_by (use_of n) row

-- what holds of each place that is used holds of that of a cell
module _ (Holds : ℕ → Type 0) where
  placed : (m : ℕ) → use_of 0 (cell.Str m) ≡ 0 → ((n : ℕ) → 0 < n → 0 < use_of n (cell.Str m) → Holds n) → Holds m
  placed zero none each = absurd (omega (arith, none))
  placed (suc m) none each = (let own : (suc m == suc m) ≡ true = grind (arith, nat_tests) in each (suc m) (omega arith) (rw own (omega arith)))

  at_first : (v : ValueRef) (vs : Row) → ((n : ℕ) → 0 < n → 0 < row_uses n (v ∷ vs) → Holds n) → (n : ℕ) → 0 < n → 0 < use_of n v → Holds n
  at_first v vs each n at is = each n at (omega (arith, sum_by-cons (use_of n) v vs, is))

  at_rest : (v : ValueRef) (vs : Row) → ((n : ℕ) → 0 < n → 0 < row_uses n (v ∷ vs) → Holds n) → (n : ℕ) → 0 < n → 0 < row_uses n vs → Holds n
  at_rest v vs each n at is = each n at (omega (arith, sum_by-cons (use_of n) v vs, is))

  first_row : (row : Row) (rows : List Row) → ((n : ℕ) → 0 < n → 0 < uses_in (row ∷ rows) n → Holds n) → (n : ℕ) → 0 < n → 0 < row_uses n row → Holds n
  first_row row rows each n at is = each n at (omega (arith, sum_by-cons (row_uses n) row rows, is))

  rest_rows : (row : Row) (rows : List Row) → ((n : ℕ) → 0 < n → 0 < uses_in (row ∷ rows) n → Holds n) → (n : ℕ) → 0 < n → 0 < uses_in rows n → Holds n
  rest_rows row rows each n at is = each n at (omega (arith, sum_by-cons (row_uses n) row rows, is))

-- ---- what is read stays where texts do

module _ (old new : Pool) where
  abbrev Stays : ℕ → Type 0
  Stays n = (pool_entry_at new.places n).text ≡ (pool_entry_at old.places n).text

  cell_stays : (v : ValueRef) → use_of 0 v ≡ 0 → ((n : ℕ) → 0 < n → 0 < use_of n v → Stays n) → value_at new v ≡ value_at old v
  cell_stays cell.Null none each = refl
  cell_stays (cell.Int z) none each = refl
  cell_stays (cell.Str m) none each = ap text (placed Stays m none each)
  cell_stays cell.Binary none each = refl

  row_stays : (row : Row) → row_uses 0 row ≡ 0 → ((n : ℕ) → 0 < n → 0 < row_uses n row → Stays n) → row_data new row ≡ row_data old row
  row_stays [] none each = refl
  row_stays (v ∷ vs) none each =
      let sum = sum_by-cons (use_of 0) v vs in
      ap₂ (λ x xs. x ∷ xs) (cell_stays v (omega (arith, sum, none)) (at_first Stays v vs each)) (row_stays vs (omega (arith, sum, none)) (at_rest Stays v vs each))

  pub rows_stay : (rows : List Row) → uses_in rows 0 ≡ 0 → ((n : ℕ) → 0 < n → 0 < uses_in rows n → Stays n) → map (row_data new) rows ≡ map (row_data old) rows
  rows_stay [] none each = refl
  rows_stay (row ∷ rows) none each =
      let sum = sum_by-cons (row_uses 0) row rows in
      ap₂ (λ x xs. x ∷ xs) (row_stays row (omega (arith, sum, none)) (first_row Stays row rows each)) (rows_stay rows (omega (arith, sum, none)) (rest_rows Stays row rows each))

-- ---- each reference has a use

module _ (pool : Pool) where
  abbrev Has : ℕ → Type 0
  Has n = 0 < (pool_entry_at pool.places n).count

  cell_used : (v : ValueRef) → use_of 0 v ≡ 0 → ((n : ℕ) → 0 < n → 0 < use_of n v → Has n) → IsPlaceUsed pool v
  cell_used cell.Null none each = tt
  cell_used (cell.Int z) none each = tt
  cell_used (cell.Str m) none each = placed Has m none each
  cell_used cell.Binary none each = tt

  row_used : (row : Row) → row_uses 0 row ≡ 0 → ((n : ℕ) → 0 < n → 0 < row_uses n row → Has n) → All (IsPlaceUsed pool) row
  row_used [] none each = All-nil (IsPlaceUsed pool)
  row_used (v ∷ vs) none each =
      let sum = sum_by-cons (use_of 0) v vs in
      All-cons (IsPlaceUsed pool) v vs (cell_used v (omega (arith, sum, none)) (at_first Has v vs each)) (row_used vs (omega (arith, sum, none)) (at_rest Has v vs each))

  pub rows_used : (rows : List Row) → uses_in rows 0 ≡ 0 → ((n : ℕ) → 0 < n → 0 < uses_in rows n → Has n) → All (All (IsPlaceUsed pool)) rows
  rows_used [] none each = All-nil (All (IsPlaceUsed pool))
  rows_used (row ∷ rows) none each =
      let sum = sum_by-cons (row_uses 0) row rows in
      All-cons (All (IsPlaceUsed pool)) row rows (row_used row (omega (arith, sum, none)) (first_row Has row rows each)) (rows_used rows (omega (arith, sum, none)) (rest_rows Has row rows each))
