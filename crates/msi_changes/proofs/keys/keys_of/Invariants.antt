use Rattle.std.proofs.Common.{◌≡◌, ◌++◌, drop, map}
use Rattle.msi_columns.specs.Held.{columns_of}
use Rattle.msi_tables.specs.Held.{rows_held}
use Rattle.msi_tables.specs.Table.{key_values, row_data}
use Rattle.msi_changes.specs.Keys.{keys_said}
use Rattle.msi_changes.proofs.keys.keys_of.Given as goal

abbrev pub invariant-loop-row : goal.invariant-loop-row
invariant-loop-row l = keys_said l.keys.items ++ map (λ row. key_values (columns_of l.columns) (row_data l.pool.pool row)) (rows_held (drop l.row-index l.rows))
    ≡ map (λ row. key_values (columns_of l.columns) (row_data l.pool.pool row)) (rows_held l.rows)
