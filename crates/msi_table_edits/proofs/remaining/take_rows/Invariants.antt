use Rattle.std.proofs.Common.{◌≡◌, false, drop, flat_map}
use Rattle.msi_tables.specs.Held.{rows_held}
use Rattle.msi_changes.specs.Changes.{all_taken_back}
use Rattle.msi_table_edits.proofs.remaining.take_rows.Given as goal

abbrev pub invariant-loop-row : goal.invariant-loop-row
invariant-loop-row l = (all_taken_back l.draft.state.pool (flat_map (λ row. row) (rows_held (drop l.row-index l.rows))) ≡ all_taken_back l.fn.draft.state.pool (flat_map (λ row. row) (rows_held l.rows)))
    × (l.draft.state.modified ≡ false → l.draft.state ≡ l.fn.draft.state) × (l.draft.under ≡ l.fn.draft.under)
