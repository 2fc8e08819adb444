use Rattle.std.proofs.Common.{◌≡◌, ◌++◌, drop, map}
use Rattle.msi_props.specs.Held.{pair_in, pair_stored}
use Rattle.msi_props.specs.Props.{under}
use Rattle.msi_props.proofs.propset.values_under.Given as goal

-- the values so far, and those to come
abbrev pub invariant-loop-number : goal.invariant-loop-number
invariant-loop-number l =
    map pair_in l.values.items ++ map (λ v. (v.0, under l.codepage v.1)) (map pair_stored (drop l.number-index l.stored)) ≡ map (λ v. (v.0, under l.codepage v.1)) (map pair_stored l.stored)
