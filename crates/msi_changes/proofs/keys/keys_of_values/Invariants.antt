use Rattle.std.proofs.Common.{◌≡◌, ◌++◌, drop, map}
use Rattle.msi_values.specs.Datum.{data_of}
use Rattle.msi_columns.specs.Held.{columns_of}
use Rattle.msi_tables.specs.Table.{key_values}
use Rattle.msi_changes.specs.Keys.{keys_said}
use Rattle.msi_changes.proofs.keys.keys_of_values.Given as goal

abbrev pub invariant-loop-row : goal.invariant-loop-row
invariant-loop-row l = keys_said l.keys.items ++ map (key_values (columns_of l.columns)) (map (λ row. data_of row.items) (drop l.row-index l.rows))
    ≡ map (key_values (columns_of l.columns)) (map (λ row. data_of row.items) l.rows)
