-- A row in memory, as what it says.
use Rattle.std.specs.Prelude.{◌≡◌, length}
use Rattle.std.specs.Rc.{rc_value}
use Rattle.msi_values.specs.Datum.{data_of}
use Rattle.msi_tables.specs.Row.{ValueRow}
use Rattle.msi_tables.specs.Held.{heading_of}
use Rattle.msi_tables.specs.declared.row.Row.TheInside.{Inside}

-- what a row says
abbrev pub row_of : Inside → ValueRow
row_of row = record { columns = (heading_of (rc_value row.table)).columns; values = data_of row.values.items }

-- there is a value for each column
abbrev pub Fits : Inside → Type 0
Fits row = length (row_of row).values ≡ length (row_of row).columns
