use Rattle.std.proofs.Common.{◌≡◌, ◌++◌, drop, length}
use Rattle.msi_columns.specs.Held.{columns_of}
use Rattle.msi_row_edits.specs.Allowed.{closed_from}
use Rattle.msi_row_edits.proofs.allowing.closed_columns.Given as goal

abbrev pub invariant-loop-column : goal.invariant-loop-column
invariant-loop-column l = columns_of l.all.items ++ closed_from (length l.all.items) (columns_of (drop l.column-index l.columns)) ≡ closed_from 0 (columns_of l.columns)
