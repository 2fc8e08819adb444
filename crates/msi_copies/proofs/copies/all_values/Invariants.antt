use Rattle.std.proofs.Common.{◌≡◌, ◌++◌, map}
use Rattle.msi_tables.specs.RowsLeft.{rows_left}
use Rattle.msi_values.specs.Datum.{data_of}
use Rattle.msi_copies.proofs.copies.all_values.Given as goal

-- the values so far, and those of the rows that are to come
abbrev pub invariant-loop-row : goal.invariant-loop-row
invariant-loop-row l = map (λ row. data_of row.items) l.values.items ++ map (λ row. row.values) (rows_left l.row-iterator) ≡ map (λ row. row.values) (rows_left l.fn.rows)
