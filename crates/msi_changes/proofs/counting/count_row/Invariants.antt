use Rattle.std.proofs.Common.{◌≡◌, false, drop}
use Rattle.msi_texts.specs.Results.{◌>>=◌}
use Rattle.msi_values.specs.Datum.{data_of}
use Rattle.msi_changes.specs.Changes.{counted, in_turn, row_counted}
use Rattle.msi_changes.proofs.Turns.{behind}
use Rattle.msi_changes.proofs.counting.count_row.Given as goal

abbrev pub invariant-loop-value : goal.invariant-loop-value
invariant-loop-value l = ((in_turn counted l.pool.state.pool (data_of (drop l.value-index l.values)) >>= behind l.cells.items) ≡ row_counted l.fn.pool.state.pool (data_of l.values))
    × (l.pool.state.modified ≡ false → l.pool.state ≡ l.fn.pool.state) × (l.pool.under ≡ l.fn.pool.under)
