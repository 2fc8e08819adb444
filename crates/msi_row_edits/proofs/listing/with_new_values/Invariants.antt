use Rattle.std.proofs.Common.{◌≡◌, ◌++◌, drop, map}
use Rattle.msi_values.specs.Datum.{data_of}
use Rattle.msi_row_edits.specs.Valued.{rows_said}
use Rattle.msi_row_edits.proofs.listing.with_new_values.Given as goal

abbrev pub invariant-loop-row : goal.invariant-loop-row
invariant-loop-row l = rows_said l.values.items ++ map (λ row. data_of row.items) (drop l.row-index l.new_rows) ≡ rows_said l.fn.stored.items ++ map (λ row. data_of row.items) l.new_rows
