use Rattle.std.proofs.Common.{◌≡◌, false, drop}
use Rattle.msi_tables.specs.Held.{heading_of}
use Rattle.msi_changes.specs.Changes.{cells_set}
use Rattle.msi_changes.specs.Said.{sets_of}
use Rattle.msi_changes.proofs.setting.set_cells.Given as goal

abbrev pub invariant-loop-set : goal.invariant-loop-set
invariant-loop-set l =
    (cells_set (heading_of l.table).columns l.pool.state.pool l.row.items (sets_of (drop l.set-index l.sets)) ≡ cells_set (heading_of l.table).columns l.fn.pool.state.pool l.fn.row.items (sets_of l.sets))
    × (l.pool.state.modified ≡ false → l.pool.state ≡ l.fn.pool.state) × (l.pool.under ≡ l.fn.pool.under)
