use Rattle.std.proofs.Common.{◌≡◌, ◌++◌, drop}
use Rattle.msi_tables.specs.Rows.{kinds_of}
use Rattle.msi_columns.specs.Held.{columns_of}
use Rattle.msi_tables.proofs.reading.kinds_of.Given as goal

abbrev pub invariant-loop-column : goal.invariant-loop-column
invariant-loop-column l = l.kinds.items ++ kinds_of (columns_of (drop l.column-index l.columns)) ≡ kinds_of (columns_of l.columns)
