use Rattle.std.proofs.Common.{◌≡◌, ◌+◌, ◌++◌, drop, length, map}
use Rattle.std.specs.List.{flat_map}
use Rattle.msi_props.specs.Held.{pair_in}
use Rattle.msi_props.specs.Props.{offsets_from, property_bytes}
use Rattle.msi_props.proofs.writing.written_values.Given as goal

-- what is written so far, and what is to come
abbrev pub invariant-loop-number : goal.invariant-loop-number
invariant-loop-number l = record {
  offsets : l.offsets.items ++ offsets_from l.codepage (l.start + length l.bodies.items) (map pair_in (drop l.number-index l.values)) ≡ offsets_from l.codepage l.start (map pair_in l.values);
  bodies : l.bodies.items ++ flat_map (λ v. property_bytes l.codepage v.1) (map pair_in (drop l.number-index l.values)) ≡ flat_map (λ v. property_bytes l.codepage v.1) (map pair_in l.values);
}
