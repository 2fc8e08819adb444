-- Uses of cells that are taken back from a pool: what the pool counts then.
use Rattle.std.proofs.Common.{◌≡◌, ℕ, ◌+◌, Bool, List, [], ◌∷◌, ◌++◌, refl, arith}
use Rattle.std.specs.Prelude.{count_by, filter, flat_map, not}
use Rattle.std.specs.List.{All}
use Rattle.std.proofs.lemmas.List.Filters.{sum_by-filter_both}
use Rattle.std.proofs.lemmas.List.Sorted.{sum_by-IsPermutation}
use Rattle.std.proofs.lemmas.List.Sums.{get_or-le-sum_by, sum_by-append, sum_by-cons}
use Rattle.msi_changes.specs.Laws.{names_place, uses_in}
use Rattle.msi_changes.proofs.CellUses.{use_of, IsPlaced}
use Rattle.msi_changes.proofs.RowUses.{row_uses}
use Rattle.msi_pool.specs.declared.stringref.ValueRef.TheVariants as cell
use Rattle.msi_tables.specs.Rows.{IsStored, Row}
use Rattle.msi_columns.specs.Column.{Column}
use Rattle.msi_tables.proofs.Writable.{stored_rows_move}

-- the cells of rows
abbrev pub cells_in : List Row → Row
cells_in rows = flat_map (λ row. row) rows

pub uses_joined : (rows : List Row) (n : ℕ) → row_uses (cells_in rows) n ≡ uses_in rows n
uses_joined [] n = refl
uses_joined (row ∷ rows) n = omega (arith, sum_by-append (λ v. use_of v n) row (cells_in rows), sum_by-cons (λ r. count_by (names_place n) r) row rows, uses_joined rows n)

pub both_uses : (xs ys : List Row) (n : ℕ) → uses_in (xs ++ ys) n ≡ uses_in xs n + uses_in ys n
both_uses xs ys n = sum_by-append (λ r. count_by (names_place n) r) xs ys

-- where no cell is a use of place 0 each names another
pub are_placed : (cells : Row) → row_uses cells 0 ≡ 0 → All IsPlaced cells
are_placed cells none = λ k d within. omega (arith, get_or-le-sum_by (λ v. use_of v 0) cells k d within, none)

-- rows that are taken out, and the others as they are stored
pub split_uses : (p : Row → Bool) (columns : List Column) (rows stored : List Row) → IsStored columns (filter (λ row. not (p row)) rows) stored → (n : ℕ)
    → uses_in rows n ≡ uses_in (filter p rows) n + uses_in stored n
split_uses p columns rows stored order n =
    let both : uses_in (filter p rows) n + uses_in (filter (λ row. not (p row)) rows) n ≡ uses_in rows n = sum_by-filter_both p (λ row. not (p row)) (λ row. refl) (λ row. count_by (names_place n) row) rows in
    let moved : uses_in stored n ≡ uses_in (filter (λ row. not (p row)) rows) n =
    sum_by-IsPermutation (λ row. count_by (names_place n) row) (filter (λ row. not (p row)) rows) stored (stored_rows_move columns (filter (λ row. not (p row)) rows) stored order) in
    omega (arith, both, moved)
