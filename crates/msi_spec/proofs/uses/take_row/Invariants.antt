use Rattle.std.proofs.Common.{drop}
use Rattle.msi_spec.specs.Uses.{cell_uses}
use Rattle.msi_spec.proofs.Down.{SoFar}
use Rattle.msi_spec.proofs.uses.take_row.Given as goal

-- what is taken and what is still to be taken
abbrev pub invariant-loop-cell : goal.invariant-loop-cell
invariant-loop-cell l = SoFar cell_uses l.fn.left l.left (drop l.cell-index l.row) l.row
