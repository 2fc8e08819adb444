use Rattle.std.proofs.Common.{length}
use Rattle.msi_changes.proofs.printing.+fmt_rows.Given as goal

abbrev pub decreases-fmt_rows : goal.decreases-fmt_rows
decreases-fmt_rows g l = length l.rows.now
