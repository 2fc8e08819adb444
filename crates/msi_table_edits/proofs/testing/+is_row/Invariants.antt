use Rattle.std.proofs.Common.{length}
use Rattle.msi_table_edits.proofs.testing.+is_row.Given as goal

abbrev pub decreases-is_row : goal.decreases-is_row
decreases-is_row l = length l.columns.now
