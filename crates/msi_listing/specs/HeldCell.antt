-- A cell in memory, as what it says.
use Rattle.std.specs.Prelude.{string_bytes}
use Rattle.msi_listing.specs.Content.{CellContent, null, number, text, bytes}
use Rattle.msi_listing.specs.declared.cell.Cell.{Cell}
use Rattle.msi_listing.specs.declared.cell.Cell.TheVariants as held

abbrev pub cell_of : Cell → CellContent
cell_of held.Null = null
cell_of (held.Number z) = number z
cell_of (held.Text s) = text (string_bytes s)
cell_of held.Bytes = bytes
