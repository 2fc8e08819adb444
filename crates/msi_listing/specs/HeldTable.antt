-- A table in memory, as what it says.
use Rattle.std.specs.Prelude.{string_bytes}
use Rattle.msi_listing.specs.Content.{TableContent}
use Rattle.msi_listing.specs.declared.table.Table.TheInside.{Inside}

abbrev pub table_of : Inside → TableContent
table_of t = record { name = string_bytes t.name; columns = t.columns.items; rows = t.rows.items }
