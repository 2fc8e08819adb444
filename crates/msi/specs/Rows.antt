-- Rows of cells as rows of values.
use Rattle.std.specs.Prelude.{ℕ, List, map}
use Rattle.msi_columns.specs.Column.{Column}
use Rattle.msi_pool.specs.Pool.{Pool}
use Rattle.msi_tables.specs.Row.{ValueRow}
use Rattle.msi_tables.specs.Rows.{Row}
use Rattle.msi_tables.specs.RowsLeft.{rows_columns, rows_left}
use Rattle.msi_tables.specs.Table.{row_data}
use Rattle.msi_tables.specs.declared.rows.Rows.{Rows}
use Rattle.msi_values.specs.Datum.{Datum}

-- a row of cells, with its values under these columns
abbrev pub value_row : List Column → Pool → Row → ValueRow
value_row columns pool row = record { columns = columns; values = row_data pool row }

-- rows that are told: the names of their columns, and their values
abbrev pub rows_shown : Rows → List (List ℕ) × List (List Datum)
rows_shown rows = (map (λ c. c.name) (rows_columns rows), map (λ row. row.values) (rows_left rows))
