use Rattle.std.proofs.Common.{◌≡◌, ◌++◌, drop}
use Rattle.msi_tables.specs.Table.{row_data}
use Rattle.msi_values.specs.Datum.{data_of}
use Rattle.msi.proofs.rows.values_of.Given as goal

-- the values so far, and those that are to come
abbrev pub invariant-loop-cell : goal.invariant-loop-cell
invariant-loop-cell l = data_of l.values.items ++ row_data l.pool.pool (drop l.cell-index l.cells) ≡ row_data l.pool.pool l.cells
