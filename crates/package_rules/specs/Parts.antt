-- Cells where they stand, as what they hold.
use Rattle.msi_listing.specs.Content.{CellContent, null, number, text, bytes}
use Rattle.package_rules.specs.declared.parts.Part.{Part}
use Rattle.package_rules.specs.declared.parts.Part.TheVariants as part

abbrev pub said : Part → CellContent
said part.Null = null
said (part.Number z) = number z
said (part.Text t) = text t.now
said part.Bytes = bytes
