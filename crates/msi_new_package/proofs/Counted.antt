-- The pool of a new package counts its texts.
use Rattle.std.proofs.Common.{◌≡◌, ◌∙◌, ℕ, ◌+◌, ◌<◌, ◌≤◌, List, [], ◌∷◌, length, refl, sym, arith}
use Rattle.std.specs.Prelude.{◌==◌, count_by}
use Rattle.std.specs.List.{sum_by, All}
use Rattle.std.specs.List.Sorted.{IsPermutation}
use Rattle.std.proofs.lemmas.Bool.Decides.{nat_tests}
use Rattle.std.proofs.lemmas.List.Elements.{All-cons, All-nil}
use Rattle.std.proofs.lemmas.List.Sorted.{All-permutation, sum_by-IsPermutation}
use Rattle.std.proofs.lemmas.List.Sums.{sum_by-cons}
use Rattle.msi_changes.specs.Laws.{names_place, uses_in}
use Rattle.msi_columns.specs.Column.{Column}
use Rattle.msi_pool.specs.Pool.{pool_entry_at}
use Rattle.msi_tables.specs.Rows.{Row}
use Rattle.msi_tables.specs.Schema.{columns_columns, columns_name, tables_columns, tables_name, validation_columns, validation_name}
use Rattle.msi_tables.specs.Table.{Table}
use Rattle.msi_spec.specs.Sound.{refcounts_of, IsPlaceUsed}
use Rattle.msi_spec.specs.Uses.{RefcountsAreExact}
use Rattle.msi_new_package.proofs.Made.{at_number, made, used_rows}

-- a table with rows
abbrev pub holding : List ℕ → List Column → List Row → Table
holding name columns rows = record { name = name; columns = columns; rows = rows }

-- the three
abbrev pub system_tables : List Row → List Row → List Row → List Table
system_tables c t v = holding columns_name columns_columns c ∷ holding tables_name tables_columns t ∷ holding validation_name validation_columns v ∷ []

pub all_three : (Has : Table → Type 0) (c t v : List Row) → Has (holding columns_name columns_columns c) → Has (holding tables_name tables_columns t) → Has (holding validation_name validation_columns v) → All Has (system_tables c t v)
all_three Has c t v a b d =
    All-cons Has (holding columns_name columns_columns c) (holding tables_name tables_columns t ∷ holding validation_name validation_columns v ∷ []) a
    (All-cons Has (holding tables_name tables_columns t) (holding validation_name validation_columns v ∷ []) b (All-cons Has (holding validation_name validation_columns v) [] d (All-nil Has)))

uses_moved : (rows stored : List Row) → IsPermutation rows stored → (n : ℕ) → uses_in stored n ≡ uses_in rows n
uses_moved rows stored moved n = sum_by-IsPermutation (λ row. count_by (names_place n) row) rows stored moved

all_uses : (c t v : List Row) (n : ℕ) → refcounts_of (system_tables c t v) n ≡ uses_in c n + (uses_in t n + uses_in v n)
all_uses c t v n =
    let f : Table → ℕ = λ u. uses_in u.rows n in
    let first : refcounts_of (system_tables c t v) n ≡ uses_in c n + refcounts_of (holding tables_name tables_columns t ∷ holding validation_name validation_columns v ∷ []) n = sum_by-cons f (holding columns_name columns_columns c) (holding tables_name tables_columns t ∷ holding validation_name validation_columns v ∷ []) in
    let second : refcounts_of (holding tables_name tables_columns t ∷ holding validation_name validation_columns v ∷ []) n ≡ uses_in t n + refcounts_of (holding validation_name validation_columns v ∷ []) n = sum_by-cons f (holding tables_name tables_columns t) (holding validation_name validation_columns v ∷ []) in
    let third : refcounts_of (holding validation_name validation_columns v ∷ []) n ≡ uses_in v n + refcounts_of [] n = sum_by-cons f (holding validation_name validation_columns v) [] in
    let none : refcounts_of [] n ≡ 0 = refl in
    omega (arith, first, second, third, none)

counted_at : (n : ℕ) → 1 ≤ n → n < 1 + 17 → (pool_entry_at made.1.places n).count ≡ uses_in made.0.0 n + (uses_in made.0.1 n + uses_in made.0.2 n)
counted_at n low high =
    let test = at_number (λ n. (pool_entry_at made.1.places n).count == (uses_in made.0.0 n + (uses_in made.0.1 n + uses_in made.0.2 n))) 1 17 refl n low high in
    grind (arith, nat_tests, test)

pub new_counted : (c t v : List Row) → IsPermutation made.0.0 c → IsPermutation made.0.1 t → IsPermutation made.0.2 v → RefcountsAreExact made.1 (system_tables c t v)
new_counted c t v cs ts vs = record {
  references = all_three (λ u. All (All (IsPlaceUsed made.1)) u.rows) c t v
      (All-permutation (All (IsPlaceUsed made.1)) made.0.0 c cs (used_rows made.0.0 refl))
      (All-permutation (All (IsPlaceUsed made.1)) made.0.1 t ts (used_rows made.0.1 refl))
      (All-permutation (All (IsPlaceUsed made.1)) made.0.2 v vs (used_rows made.0.2 refl));
  counts = λ n some within.
      let seventeen : length made.1.places ≡ 17 = refl in
      counted_at n (omega (arith, some)) (omega (arith, within, seventeen))
      ∙ sym (let all = all_uses c t v n in let a = uses_moved made.0.0 c cs n in let b = uses_moved made.0.1 t ts n in let d = uses_moved made.0.2 v vs n in omega (arith, all, a, b, d));
}
