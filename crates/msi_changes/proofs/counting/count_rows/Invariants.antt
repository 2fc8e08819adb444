use Rattle.std.proofs.Common.{◌≡◌, false, drop, map}
use Rattle.msi_texts.specs.Results.{◌>>=◌}
use Rattle.msi_values.specs.Datum.{data_of}
use Rattle.msi_tables.specs.Held.{rows_held}
use Rattle.msi_changes.specs.Changes.{in_turn, row_counted, rows_counted}
use Rattle.msi_changes.proofs.Turns.{behind}
use Rattle.msi_changes.proofs.counting.count_rows.Given as goal

abbrev pub invariant-loop-row : goal.invariant-loop-row
invariant-loop-row l = ((in_turn row_counted l.pool.state.pool (map (λ row. data_of row.items) (drop l.row-index l.rows)) >>= behind (rows_held l.cells.items)) ≡ rows_counted l.fn.pool.state.pool (map (λ row. data_of row.items) l.rows))
    × (l.pool.state.modified ≡ false → l.pool.state ≡ l.fn.pool.state) × (l.pool.under ≡ l.fn.pool.under)
