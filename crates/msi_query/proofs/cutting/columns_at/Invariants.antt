use Rattle.std.proofs.Common.{◌≡◌, ◌++◌, drop}
use Rattle.msi_query.specs.Query.{parts_at}
use Rattle.msi_columns.specs.Held.{columns_of}
use Rattle.msi_query.proofs.cutting.columns_at.Given as goal

abbrev pub invariant-loop-place : goal.invariant-loop-place
invariant-loop-place l = columns_of l.cut.items ++ parts_at (drop l.place-index l.places) (columns_of l.columns) ≡ parts_at l.places (columns_of l.columns)
