use Rattle.std.proofs.Common.{◌≡◌, false}
use Rattle.std.specs.Vec.Iter.{into_iter_items}
use Rattle.msi_texts.specs.Results.{◌>>=◌}
use Rattle.msi_tables.specs.Held.{rows_held}
use Rattle.msi_changes.specs.Applied.{left_of}
use Rattle.msi_expr.specs.Conditions.{matches}
use Rattle.msi_expr.specs.RowTests.{columns_in, condition_in}
use Rattle.msi_changes.proofs.Turns.{behind}
use Rattle.msi_changes.proofs.delete.rows_failing.Given as goal

abbrev pub invariant-loop-row : goal.invariant-loop-row
invariant-loop-row l =
    let matching = matches l.pool.pool (columns_in l.test) (condition_in l.test) in
    ((left_of matching l.counted.state.pool (rows_held (into_iter_items l.row-iterator)) >>= behind (rows_held l.left.items)) ≡ left_of matching l.fn.counted.state.pool (rows_held l.fn.rows.items))
    × (l.counted.state.modified ≡ false → l.counted.state ≡ l.fn.counted.state) × (l.counted.under ≡ l.fn.counted.under)
