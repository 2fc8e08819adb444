use Rattle.std.proofs.Common.{◌≡◌, ◌++◌}
use Rattle.std.specs.Prelude.{filter}
use Rattle.std.specs.Vec.Iter.{into_iter_items}
use Rattle.msi_expr.specs.Conditions.{matches, condition_of}
use Rattle.msi_tables.specs.Held.{heading_of, rows_held}
use Rattle.msi_query.proofs.cutting.filtered_rows.Given as goal

abbrev pub invariant-loop-row : goal.invariant-loop-row
invariant-loop-row l =
    let test = matches l.pool.pool (heading_of l.table).columns (condition_of l.condition) in
    rows_held l.kept.items ++ filter test (rows_held (into_iter_items l.row-iterator)) ≡ filter test (rows_held l.fn.rows.items)
