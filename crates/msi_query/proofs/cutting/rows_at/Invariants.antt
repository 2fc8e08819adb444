use Rattle.std.proofs.Common.{◌≡◌, ◌++◌, drop, map}
use Rattle.msi_query.specs.Query.{parts_at}
use Rattle.msi_tables.specs.Held.{rows_held}
use Rattle.msi_query.proofs.cutting.rows_at.Given as goal

abbrev pub invariant-loop-row : goal.invariant-loop-row
invariant-loop-row l = rows_held l.cut.items ++ map (parts_at l.places) (rows_held (drop l.row-index l.rows)) ≡ map (parts_at l.places) (rows_held l.rows)
