use Rattle.std.proofs.Common.{◌≡◌, ◌++◌, suc, drop, map}
use Rattle.msi_columns.specs.Held.{columns_of}
use Rattle.msi_tables.specs.Schema.{columns_rows}
use Rattle.msi_values.specs.Datum.{data_of}
use Rattle.msi_new_package.proofs.rows.columns_rows.Given as goal

-- the number is that of the columns so far, and the rows so far and those that are left are all
abbrev pub invariant-loop-column : goal.invariant-loop-column
invariant-loop-column l = (l.number ≡ l.column-index)
    × (map (λ row. data_of row.items) l.rows.items ++ columns_rows l.table (suc l.column-index) (columns_of (drop l.column-index l.columns)) ≡ columns_rows l.table 1 (columns_of l.columns))
