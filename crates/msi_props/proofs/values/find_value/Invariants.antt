use Rattle.std.proofs.Common.{◌≡◌, drop, map}
use Rattle.msi_props.specs.Held.{pair_in}
use Rattle.msi_props.specs.Props.{value_of}
use Rattle.msi_props.proofs.values.find_value.Given as goal

-- it is among the values to come
abbrev pub invariant-loop-value : goal.invariant-loop-value
invariant-loop-value l = value_of l.number (map pair_in l.values) ≡ value_of l.number (map pair_in (drop l.value-index l.values))
