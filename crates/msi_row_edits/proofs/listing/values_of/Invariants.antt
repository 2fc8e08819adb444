use Rattle.std.proofs.Common.{◌≡◌, ◌++◌, drop}
use Rattle.msi_values.specs.Borrowed.{borrowed_data}
use Rattle.msi_tables.specs.Table.{row_data}
use Rattle.msi_row_edits.proofs.listing.values_of.Given as goal

abbrev pub invariant-loop-cell : goal.invariant-loop-cell
invariant-loop-cell l = borrowed_data l.values.items ++ row_data l.pool.pool (drop l.cell-index l.row) ≡ row_data l.pool.pool l.row
