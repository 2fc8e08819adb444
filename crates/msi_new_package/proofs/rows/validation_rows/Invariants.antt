use Rattle.std.proofs.Common.{◌≡◌, ◌++◌, drop, map}
use Rattle.msi_columns.specs.Held.{columns_of}
use Rattle.msi_tables.specs.Schema.{validation_row}
use Rattle.msi_values.specs.Datum.{data_of}
use Rattle.msi_new_package.proofs.rows.validation_rows.Given as goal

abbrev pub invariant-loop-column : goal.invariant-loop-column
invariant-loop-column l = map (λ row. data_of row.items) l.rows.items ++ map (validation_row l.table) (columns_of (drop l.column-index l.columns)) ≡ map (validation_row l.table) (columns_of l.columns)
