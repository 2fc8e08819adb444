use Rattle.std.proofs.Common.{◌≤◌, length, take}
use Rattle.std.specs.Prelude.{All}
use Rattle.msi_schema.proofs.keys.widest.Given as goal

-- the rows so far are no longer
abbrev pub invariant-loop-row : goal.invariant-loop-row
invariant-loop-row l = All (λ row. length row.items ≤ l.width) (take l.row-index l.rows)
