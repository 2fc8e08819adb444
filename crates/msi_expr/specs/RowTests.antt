-- Conditions made ready for the rows of one table.
use Rattle.std.specs.Prelude.{◌≡◌, ◌&&◌, ◌||◌, Bool, List, Option, Some, None, IsTrue, slice_index_or}
use Rattle.msi_columns.specs.Column.{Column}
use Rattle.msi_pool.specs.Pool.{Pool}
use Rattle.msi_tables.specs.Held.{heading_of}
use Rattle.msi_tables.specs.Rows.{Row}
use Rattle.msi_tables.specs.Table.{row_data}
use Rattle.msi_values.specs.Borrowed.{borrowed_datum}
use Rattle.msi_values.specs.Datum.{null, counts_as_true}
use Rattle.msi_expr.specs.Conditions.{condition_of, has_named_columns, matches}
use Rattle.msi_expr.specs.Formula.{Formula, ast_formula, two_applied}
use Rattle.msi_expr.specs.declared.row_test.Part.{Part}
use Rattle.msi_expr.specs.declared.row_test.Part.TheVariants as part
use Rattle.msi_expr.specs.declared.row_test.RowTest.{RowTest}

-- the part counts as true of the row
abbrev pub part_holds : Pool → List Column → Part → Row → Bool
part_holds pool columns (part.Compared op i value) row = counts_as_true (two_applied op (slice_index_or (row_data pool row) i null) (borrowed_datum value))
part_holds pool columns (part.Both' p a q b) row = part_holds pool columns a row && part_holds pool columns b row
part_holds pool columns (part.Either' p a q b) row = part_holds pool columns a row || part_holds pool columns b row
part_holds pool columns (part.Other ast) row = matches pool columns (Some (ast_formula ast.now)) row

-- there is each column that it names
abbrev pub KnowsPart : List Column → Part → Type 0
KnowsPart columns (part.Compared op i value) = Unit {0}
KnowsPart columns (part.Both' p a q b) = KnowsPart columns a × KnowsPart columns b
KnowsPart columns (part.Either' p a q b) = KnowsPart columns a × KnowsPart columns b
KnowsPart columns (part.Other ast) = IsTrue (has_named_columns columns (ast_formula ast.now))

-- IT IS WHAT THE FORMULA SAYS: of each row, over each pool
pub record IsPartOf (columns : List Column) (f : Formula) (p : Part) : Type 0 where
  pub knows : KnowsPart columns p
  pub says : (pool : Pool) → (row : Row) → part_holds pool columns p row ≡ matches pool columns (Some f) row

-- the same of a condition, where there is one
abbrev pub IsPartOfCondition : List Column → Option Formula → Option Part → Type 0
IsPartOfCondition columns None None = Unit {0}
IsPartOfCondition columns None (Some p) = ⊥
IsPartOfCondition columns (Some f) None = ⊥
IsPartOfCondition columns (Some f) (Some p) = IsPartOf columns f p

-- the condition of a test, and the columns over which it was made
abbrev pub condition_in : RowTest → Option Formula
condition_in t = condition_of t.condition.now

abbrev pub columns_in : RowTest → List Column
columns_in t = (heading_of t.table.now).columns

-- A TEST SAYS WHAT ITS CONDITION DOES
abbrev pub IsReady : RowTest → Type 0
IsReady t = IsPartOfCondition (columns_in t) (condition_in t) t.part

-- it is ready, for this condition over these columns
pub record IsTestOf (columns : List Column) (condition : Option Formula) (t : RowTest) : Type 0 where
  pub columns_are : columns_in t ≡ columns
  pub condition_is : condition_in t ≡ condition
  pub ready : IsReady t
