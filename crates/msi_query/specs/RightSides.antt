-- The right side of a join in memory.
use Rattle.std.specs.Prelude.{◌≡◌, List}
use Rattle.msi_pool.specs.Pool.{Pool}
use Rattle.msi_columns.specs.Column.{Column}
use Rattle.msi_tables.specs.Held.{rows_held}
use Rattle.msi_expr.specs.Formula.{Formula}
use Rattle.msi_query.specs.Grouped.{RightRowsAreGrouped, rows_lent}
use Rattle.msi_query.specs.declared.grouping.RightSide.{RightSide}

-- its rows stand there, grouped where the condition asks for it
pub record IsRightSide (pool : Pool) (columns : List Column) (on : Formula) (side : RightSide) : Type 0 where
  pub all : rows_lent side.all.items ≡ rows_held side.rows.now
  pub index : RightRowsAreGrouped pool columns on side.own (rows_held side.rows.now) side.index
