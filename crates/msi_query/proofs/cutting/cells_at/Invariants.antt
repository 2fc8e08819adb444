use Rattle.std.proofs.Common.{◌≡◌, ◌++◌, drop}
use Rattle.msi_query.specs.Query.{parts_at}
use Rattle.msi_query.proofs.cutting.cells_at.Given as goal

abbrev pub invariant-loop-place : goal.invariant-loop-place
invariant-loop-place l = l.cells.items ++ parts_at (drop l.place-index l.places) l.row ≡ parts_at l.places l.row
