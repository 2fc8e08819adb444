-- Conditions on rows: what they say, which columns they name, and of which rows they count as true.
use Rattle.std.specs.Prelude.{ℕ, zero, suc, Bool, true, ◌&&◌, List, [], ◌∷◌, Option, Some, None, option_map}
use Rattle.msi_values.specs.Datum.{Datum, null, counts_as_true}
use Rattle.msi_pool.specs.Pool.{Pool}
use Rattle.msi_columns.specs.Column.{Column, has_column}
use Rattle.msi_tables.specs.Row.{Cells, named_cells}
use Rattle.msi_tables.specs.Rows.{Row}
use Rattle.msi_tables.specs.Table.{row_data}
use Rattle.msi_expr.specs.Formula.{Formula, literal, column, unary, two, both, either, formula_of, value_of_formula}
use Rattle.msi_expr.specs.declared.expr.Expr.{Expr}

-- a condition, where there is one
abbrev pub condition_of : Option Expr → Option Formula
condition_of c = option_map formula_of c

-- a condition and one more, which must hold both
abbrev pub narrowed : Option Formula → Formula → Option Formula
narrowed None f = Some f
narrowed (Some g) f = Some (both g f)

-- no condition holds of each row
abbrev pub holds_of : Option Formula → Cells → Bool
holds_of None row = true
holds_of (Some f) row = counts_as_true (value_of_formula row f)

-- the condition counts as true of the row
abbrev pub matches : Pool → List Column → Option Formula → Row → Bool
matches pool columns condition row = holds_of condition (named_cells columns (row_data pool row))

-- there is each column that the expression names
abbrev pub has_named_columns : List Column → Formula → Bool
has_named_columns columns (literal d) = true
has_named_columns columns (column name) = has_column columns name
has_named_columns columns (unary o a) = has_named_columns columns a
has_named_columns columns (two o a b) = has_named_columns columns a && has_named_columns columns b
has_named_columns columns (both a b) = has_named_columns columns a && has_named_columns columns b
has_named_columns columns (either a b) = has_named_columns columns a && has_named_columns columns b

-- the same of a condition
abbrev pub knows_condition : List Column → Option Formula → Bool
knows_condition columns None = true
knows_condition columns (Some f) = has_named_columns columns f

-- the first values of a row, as many as asked for, with nulls behind those that it has
abbrev pub filled_up : ℕ → List Datum → List Datum
filled_up zero ds = []
filled_up (suc n) [] = null ∷ filled_up n []
filled_up (suc n) (d ∷ ds) = d ∷ filled_up n ds
