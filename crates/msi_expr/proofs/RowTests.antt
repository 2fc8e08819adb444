-- A test says what its condition does.
use Rattle.std.proofs.Common.{◌≡◌, ◌∙◌, sym, ap, ap₂, ℕ, List, refl, Bool, true, false}
use Rattle.std.specs.Prelude.{◌&&◌, ◌||◌, Option, Some, option_map, slice_index_or, if◌then◌else◌}
use Rattle.msi_values.specs.Borrowed.{borrowed_datum}
use Rattle.msi_values.specs.Datum.{Datum, null, counts_as_true, truth}
use Rattle.msi_values.specs.declared.borrowed.BorrowedValue.{BorrowedValue}
use Rattle.msi_columns.specs.Column.{Column, column_place}
use Rattle.msi_pool.specs.Pool.{Pool}
use Rattle.msi_tables.specs.Row.{cell_named, named_cells}
use Rattle.msi_tables.specs.Rows.{Row}
use Rattle.msi_tables.specs.Table.{row_data}
use Rattle.msi_expr.proofs.FilledUp.{named_place, worth_same}
use Rattle.msi_expr.specs.Conditions.{matches}
use Rattle.msi_expr.specs.Formula.{Formula, literal, column, two, both, either, or_null, two_applied, value_of_formula}
use Rattle.msi_expr.specs.RowTests.{IsPartOf, part_holds}
use Rattle.msi_expr.specs.declared.operators.BinOp.{BinOp}
use Rattle.msi_expr.specs.declared.row_test.Part.{Part}
use Rattle.msi_expr.specs.declared.row_test.Part.TheVariants as part

-- the value of a column that stands at a place
cell_at : (columns : List Column) (ds : List Datum) (name : List ℕ) (i : ℕ) → column_place columns name ≡ Some i
    → slice_index_or ds i null ≡ or_null (cell_named name (named_cells columns ds))
cell_at columns ds name i at =
    sym (ap (λ o. or_null (option_map (λ j. slice_index_or ds j null) o)) at) ∙ sym (ap or_null (named_place columns ds name)) ∙ worth_same columns ds (column name)

pub compared_says : (columns : List Column) (op : BinOp) (name : List ℕ) (i : ℕ) (d : Datum) (value : BorrowedValue) → column_place columns name ≡ Some i → borrowed_datum value ≡ d
    → IsPartOf columns (two op (column name) (literal d)) (part.Compared op i value)
compared_says columns op name i d value at is = record {
  knows = record {};
  says = λ pool row. ap counts_as_true (ap₂ (two_applied op) (cell_at columns (row_data pool row) name i at) is);
}

truth_counts : (b : Bool) → counts_as_true (truth b) ≡ b
truth_counts true = refl
truth_counts false = refl

or_is : (a b : Bool) → (if a then true else b) ≡ (a || b)
or_is true b = refl
or_is false b = refl

pub both_says : (columns : List Column) (f g : Formula) (a b : Part) → IsPartOf columns f a → IsPartOf columns g b
    → (pool : Pool) (row : Row) → (part_holds pool columns a row && part_holds pool columns b row) ≡ matches pool columns (Some (both f g)) row
both_says columns f g a b one other pool row =
    ap₂ (λ x y. x && y) (one.says pool row) (other.says pool row) ∙ sym (truth_counts (matches pool columns (Some f) row && matches pool columns (Some g) row))

pub either_says : (columns : List Column) (f g : Formula) (a b : Part) → IsPartOf columns f a → IsPartOf columns g b
    → (pool : Pool) (row : Row) → (part_holds pool columns a row || part_holds pool columns b row) ≡ matches pool columns (Some (either f g)) row
either_says columns f g a b one other pool row =
    ap₂ (λ x y. x || y) (one.says pool row) (other.says pool row) ∙ sym (or_is (matches pool columns (Some f) row) (matches pool columns (Some g) row))
    ∙ sym (truth_counts (if matches pool columns (Some f) row then true else matches pool columns (Some g) row))
