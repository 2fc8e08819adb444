use Rattle.std.proofs.Common.{length}
use Rattle.command_reasons.proofs.rows.+cells_fault.Given as goal

abbrev pub decreases-cells_fault : goal.decreases-cells_fault
decreases-cells_fault l = length l.columns.now
