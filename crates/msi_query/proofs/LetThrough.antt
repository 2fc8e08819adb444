-- Where there is no condition, each row is let through.
use Rattle.std.proofs.Common.{◌≡◌, ap, refl, List, [], ◌∷◌}
use Rattle.std.specs.Prelude.{filter, Option, None}
use Rattle.msi_columns.specs.Column.{Column}
use Rattle.msi_pool.specs.Pool.{Pool}
use Rattle.msi_tables.specs.Rows.{Row}
use Rattle.msi_expr.specs.Conditions.{condition_of, matches}
use Rattle.msi_expr.specs.declared.expr.Expr.{Expr}

pub each_passes : (pool : Pool) (columns : List Column) (rows : List Row) → rows ≡ filter (matches pool columns None) rows
each_passes pool columns [] = refl
each_passes pool columns (row ∷ rows) = ap (λ rest. row ∷ rest) (each_passes pool columns rows)
