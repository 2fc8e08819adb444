use Rattle.std.proofs.Common.{◌≡◌, ◌++◌, drop, map}
use Rattle.msi_tables.specs.Held.{rows_held}
use Rattle.msi_tables.specs.Table.{row_data}
use Rattle.msi_row_edits.specs.Valued.{rows_said}
use Rattle.msi_row_edits.proofs.listing.stored_values.Given as goal

abbrev pub invariant-loop-row : goal.invariant-loop-row
invariant-loop-row l = rows_said l.values.items ++ map (row_data l.pool.pool) (rows_held (drop l.row-index l.rows)) ≡ map (row_data l.pool.pool) (rows_held l.rows)
