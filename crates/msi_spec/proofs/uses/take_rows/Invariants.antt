use Rattle.std.proofs.Common.{drop}
use Rattle.msi_tables.specs.Held.{rows_held}
use Rattle.msi_spec.specs.Uses.{row_uses}
use Rattle.msi_spec.proofs.Down.{SoFar}
use Rattle.msi_spec.proofs.uses.take_rows.Given as goal

-- what is taken and what is still to be taken
abbrev pub invariant-loop-row : goal.invariant-loop-row
invariant-loop-row l = SoFar row_uses l.fn.left l.left (rows_held (drop l.row-index l.rows)) (rows_held l.rows)
