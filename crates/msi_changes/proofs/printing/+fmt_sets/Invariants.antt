use Rattle.std.proofs.Common.{length}
use Rattle.msi_changes.proofs.printing.+fmt_sets.Given as goal

abbrev pub decreases-fmt_sets : goal.decreases-fmt_sets
decreases-fmt_sets g l = length l.sets.now
