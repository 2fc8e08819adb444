-- Tables in memory with their rows, as what they say.
use Rattle.std.specs.Prelude.{List, Vec}
use Rattle.std.specs.declared.alloc.Global.{Global}
use Rattle.msi_pool.specs.declared.stringref.ValueRef.{ValueRef}
use Rattle.msi_tables.specs.Held.{heading_of, rows_held}
use Rattle.msi_tables.specs.Table.{Table}
use Rattle.msi_tables.specs.declared.table.Table.{Table as HeldTable}

-- a table and rows for it
abbrev pub table_held : HeldTable → List (Vec ValueRef Global) → Table
table_held table rows = record { name = (heading_of table).name; columns = (heading_of table).columns; rows = rows_held rows }

-- what a query answers
abbrev pub answered : HeldTable × Vec (Vec ValueRef Global) Global → Table
answered found = table_held found.0 found.1.items
