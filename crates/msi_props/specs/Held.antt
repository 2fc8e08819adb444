-- Property sets in memory, as what they say.
use Rattle.std.specs.Prelude.{ℕ, string_bytes, Bool}
use Rattle.cfb_medium.specs.Times.{units_of}
use Rattle.msi_props.specs.Props.{Head, Property, Props}
use Rattle.msi_props.specs.Props as property
use Rattle.msi_props.specs.declared.head.Head as memory
use Rattle.msi_props.specs.declared.stored.StoredValue.{StoredValue}
use Rattle.msi_props.specs.declared.stored.StoredValue.TheVariants as stored
use Rattle.msi_props.specs.declared.value.PropertyValue.{PropertyValue}
use Rattle.msi_props.specs.declared.value.PropertyValue.TheVariants as value

-- a value as what it says
abbrev pub property_in : PropertyValue → Property
property_in value.Empty = property.empty
property_in value.Null = property.null
property_in (value.I1 z) = property.i1 z
property_in (value.I2 z) = property.i2 z
property_in (value.I4 z) = property.i4 z
property_in (value.LpStr s) = property.text (string_bytes s)
property_in (value.FileTime t) = property.time (units_of t)

-- with its number
abbrev pub pair_in : ℕ × PropertyValue → ℕ × Property
pair_in p = (p.0, property_in p.1)

-- a value as a section holds it, its text as bytes
abbrev pub stored_in : StoredValue → Property
stored_in stored.Empty = property.empty
stored_in stored.Null = property.null
stored_in (stored.I1 z) = property.i1 z
stored_in (stored.I2 z) = property.i2 z
stored_in (stored.I4 z) = property.i4 z
stored_in (stored.Text t) = property.text t.now
stored_in (stored.FileTime t) = property.time (units_of t)

-- with its number
abbrev pub pair_stored : ℕ × StoredValue → ℕ × Property
pair_stored p = (p.0, stored_in p.1)

-- a set in memory: what it says, and whether each of its texts gave back its bytes when it was read
pub record SetState : Type 0 where
  pub props : Props
  pub whole : Bool

-- the head of a set in memory
abbrev pub head_in : memory.Head → Head
head_in h = record {
  version = h.version;
  system_version = h.system_version;
  system = h.system;
  class = h.class;
  sections = h.sections;
  format = h.format;
  offset = h.offset;
}
