use Rattle.std.proofs.Common.{length}
use Rattle.msi_changes.proofs.validity.+is_row.Given as goal

abbrev pub decreases-is_row : goal.decreases-is_row
decreases-is_row l = length l.columns.now
