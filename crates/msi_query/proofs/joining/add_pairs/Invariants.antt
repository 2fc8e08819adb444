use Rattle.std.proofs.Common.{◌≡◌, ◌++◌, drop}
use Rattle.std.specs.Rc.{rc_value}
use Rattle.msi_expr.specs.Formula.{formula_of}
use Rattle.msi_query.specs.Grouped.{rows_lent}
use Rattle.msi_query.specs.Query.{pairs_with}
use Rattle.msi_tables.specs.Held.{heading_of, rows_held}
use Rattle.msi_query.proofs.joining.add_pairs.Given as goal

abbrev pub invariant-loop-other : goal.invariant-loop-other
invariant-loop-other l =
    let columns = (heading_of (rc_value l.table)).columns in
    rows_held l.rows.items ++ pairs_with l.pool.pool columns (formula_of l.on) (rows_lent (drop l.other-index l.right)) l.left ≡ rows_held l.initial.rows.items ++ pairs_with l.pool.pool columns (formula_of l.on) (rows_lent l.right) l.left
