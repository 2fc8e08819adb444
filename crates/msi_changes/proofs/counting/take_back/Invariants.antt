use Rattle.std.proofs.Common.{◌≡◌, false, drop}
use Rattle.msi_changes.specs.Changes.{all_taken_back}
use Rattle.msi_changes.proofs.counting.take_back.Given as goal

abbrev pub invariant-loop-cell : goal.invariant-loop-cell
invariant-loop-cell l = (all_taken_back l.pool.state.pool (drop l.cell-index l.row) ≡ all_taken_back l.fn.pool.state.pool l.row) × (l.pool.state.modified ≡ false → l.pool.state ≡ l.fn.pool.state) × (l.pool.under ≡ l.fn.pool.under)
