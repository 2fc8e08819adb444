-- Tables in memory, as what they say.
use Rattle.std.specs.Prelude.{List, map, Vec, string_bytes}
use Rattle.std.specs.declared.alloc.Global.{Global}
use Rattle.msi_pool.specs.declared.stringref.ValueRef.{ValueRef}
use Rattle.msi_columns.specs.Held.{columns_of}
use Rattle.msi_tables.specs.Rows.{Row}
use Rattle.msi_tables.specs.Table.{Heading}
use Rattle.msi_tables.specs.declared.table.Table.{Table as HeldTable}

-- a table without its rows
unfoldable pub heading_of : HeldTable → Heading
heading_of t = record { name = string_bytes t.name; columns = columns_of t.columns.items; long = t.long_string_refs }

-- rows of cells
abbrev pub rows_held : List (Vec ValueRef Global) → List Row
rows_held rows = map (λ row. row.items) rows
