-- A property in memory, as what it says.
use Rattle.std.specs.Prelude.{ℕ, string_bytes}
use Rattle.msi_listing.specs.Content.{PropertyContent, empty, nothing, i1, i2, i4, words, time}
use Rattle.msi_listing.specs.declared.property.Property.{Property}
use Rattle.msi_listing.specs.declared.property.Property.TheVariants as held

abbrev pub property_of : Property → PropertyContent
property_of held.Empty = empty
property_of held.Null = nothing
property_of (held.I1 z) = i1 z
property_of (held.I2 z) = i2 z
property_of (held.I4 z) = i4 z
property_of (held.Text s) = words (string_bytes s)
property_of (held.Time n) = time n

-- with its number
abbrev pub pair_of : ℕ × Property → ℕ × PropertyContent
pair_of p = (p.0, property_of p.1)
