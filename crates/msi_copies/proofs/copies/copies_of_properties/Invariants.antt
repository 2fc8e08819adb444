use Rattle.std.proofs.Common.{◌≡◌, map, take}
use Rattle.msi_props.specs.Held.{pair_in}
use Rattle.msi_copies.proofs.copies.copies_of_properties.Given as goal

-- the properties so far
abbrev pub invariant-loop-property : goal.invariant-loop-property
invariant-loop-property l = map pair_in l.copies.items ≡ map pair_in (take l.property-index l.properties)
