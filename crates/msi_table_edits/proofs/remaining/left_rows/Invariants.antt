use Rattle.std.proofs.Common.{◌≡◌, false}
use Rattle.std.specs.Vec.Iter.{into_iter_items}
use Rattle.msi_texts.specs.Results.{◌>>=◌}
use Rattle.msi_tables.specs.Held.{rows_held}
use Rattle.msi_changes.specs.Applied.{left_of}
use Rattle.msi_changes.proofs.Turns.{behind}
use Rattle.msi_spec.specs.Calls.{speaks_of}
use Rattle.msi_table_edits.proofs.remaining.left_rows.Given as goal

abbrev pub invariant-loop-row : goal.invariant-loop-row
invariant-loop-row l =
    ((left_of (speaks_of l.pool.pool l.name) l.draft.state.pool (rows_held (into_iter_items l.row-iterator)) >>= behind (rows_held l.left.items)) ≡ left_of (speaks_of l.pool.pool l.name) l.fn.draft.state.pool (rows_held l.fn.rows.items))
    × (l.draft.state.modified ≡ false → l.draft.state ≡ l.fn.draft.state) × (l.draft.under ≡ l.fn.draft.under)
