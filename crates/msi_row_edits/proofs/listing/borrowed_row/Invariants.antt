use Rattle.std.proofs.Common.{◌≡◌, ◌++◌, drop}
use Rattle.msi_values.specs.Borrowed.{borrowed_data}
use Rattle.msi_values.specs.Datum.{data_of}
use Rattle.msi_row_edits.proofs.listing.borrowed_row.Given as goal

abbrev pub invariant-loop-value : goal.invariant-loop-value
invariant-loop-value l = borrowed_data l.values.items ++ data_of (drop l.value-index l.row) ≡ data_of l.row
