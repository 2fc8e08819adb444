use Rattle.std.proofs.Common.{◌≡◌, map, take}
use Rattle.msi_values.specs.Datum.{data_of}
use Rattle.msi_building.proofs.copies.copies_of_rows.Given as goal

-- the rows so far
abbrev pub invariant-loop-row : goal.invariant-loop-row
invariant-loop-row l = map (λ row. data_of row.items) l.copies.items ≡ map (λ row. data_of row.items) (take l.row-index l.rows)
