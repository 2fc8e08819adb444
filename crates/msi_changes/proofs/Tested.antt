-- A test of rows says what was asked.
use Rattle.std.proofs.Common.{◌≡◌, ap₂, List}
use Rattle.std.specs.Prelude.{Option}
use Rattle.msi_columns.specs.Column.{Column}
use Rattle.msi_pool.specs.Pool.{Pool}
use Rattle.msi_expr.specs.Conditions.{matches}
use Rattle.msi_expr.specs.Formula.{Formula}
use Rattle.msi_expr.specs.RowTests.{IsTestOf, columns_in, condition_in}
use Rattle.msi_expr.specs.declared.row_test.RowTest.{RowTest}

pub same_test : {columns : List Column} {condition : Option Formula} {t : RowTest} (pool : Pool) → IsTestOf columns condition t
    → matches pool (columns_in t) (condition_in t) ≡ matches pool columns condition
same_test pool test = ap₂ (λ cs f. matches pool cs f) test.columns_are test.condition_is
