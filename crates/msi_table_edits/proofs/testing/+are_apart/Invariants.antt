use Rattle.std.proofs.Common.{length}
use Rattle.msi_table_edits.proofs.testing.+are_apart.Given as goal

abbrev pub decreases-are_apart : goal.decreases-are_apart
decreases-are_apart l = length l.columns.now
