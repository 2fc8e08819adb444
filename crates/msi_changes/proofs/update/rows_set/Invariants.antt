use Rattle.std.proofs.Common.{◌≡◌, false}
use Rattle.std.specs.Vec.Iter.{into_iter_items}
use Rattle.msi_texts.specs.Results.{◌>>=◌}
use Rattle.msi_tables.specs.Held.{heading_of, rows_held}
use Rattle.msi_changes.specs.Applied.{judged}
use Rattle.msi_changes.specs.Changes.{in_turn, row_set, rows_set}
use Rattle.msi_expr.specs.Conditions.{matches}
use Rattle.msi_expr.specs.RowTests.{columns_in, condition_in}
use Rattle.msi_changes.specs.Said.{sets_of}
use Rattle.msi_changes.proofs.Turns.{behind}
use Rattle.msi_changes.proofs.update.rows_set.Given as goal

abbrev pub invariant-loop-row : goal.invariant-loop-row
invariant-loop-row l =
    let columns = (heading_of l.table).columns in
    let matching = matches l.pool.pool (columns_in l.test) (condition_in l.test) in
    ((in_turn (row_set columns (sets_of l.sets)) l.counted.state.pool (judged matching (rows_held (into_iter_items l.row-iterator))) >>= behind (rows_held l.after.items))
    ≡ rows_set columns l.fn.counted.state.pool (sets_of l.sets) (judged matching (rows_held l.fn.rows.items)))
    × (l.counted.state.modified ≡ false → l.counted.state ≡ l.fn.counted.state) × (l.counted.under ≡ l.fn.counted.under)
