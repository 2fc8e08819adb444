-- A column in memory, as what it says.
use Rattle.std.specs.Prelude.{string_bytes}
use Rattle.msi_listing.specs.Content.{ColumnContent}
use Rattle.msi_listing.specs.declared.column.Column.TheInside.{Inside}

abbrev pub column_of : Inside → ColumnContent
column_of c = record { name = string_bytes c.name; kind = c.kind; localizable = c.marks.localizable; nullable = c.marks.nullable; key = c.marks.key }
