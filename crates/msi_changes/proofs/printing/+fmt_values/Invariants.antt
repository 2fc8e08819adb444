use Rattle.std.proofs.Common.{length}
use Rattle.msi_changes.proofs.printing.+fmt_values.Given as goal

abbrev pub decreases-fmt_values : goal.decreases-fmt_values
decreases-fmt_values g l = length l.values.now
