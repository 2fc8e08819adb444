use Rattle.std.proofs.Common.{◌≡◌, ◌++◌, drop}
use Rattle.std.specs.List.{flat_map}
use Rattle.std.specs.Rc.{rc_value}
use Rattle.msi_expr.specs.Formula.{formula_of}
use Rattle.msi_query.specs.Query.{pairs_with}
use Rattle.msi_tables.specs.Held.{heading_of, rows_held}
use Rattle.msi_query.proofs.joining.inner_pairs.Given as goal

abbrev pub invariant-loop-row : goal.invariant-loop-row
invariant-loop-row l =
    let pairs = pairs_with l.pool.pool (heading_of (rc_value l.table)).columns (formula_of l.on) (rows_held l.side.rows.now) in
    rows_held l.rows.items ++ flat_map pairs (rows_held (drop l.row-index l.left)) ≡ flat_map pairs (rows_held l.left)
