use Rattle.std.proofs.Common.{◌≡◌, drop, map}
use Rattle.std.specs.List.{list_all}
use Rattle.msi_props.specs.Held.{pair_stored}
use Rattle.msi_props.specs.Props.{property_round_trips}
use Rattle.msi_props.proofs.propset.all_give_back.Given as goal

-- it depends on the values to come
abbrev pub invariant-loop-value : goal.invariant-loop-value
invariant-loop-value l =
    list_all (λ v. property_round_trips l.codepage v.1) (map pair_stored l.stored) ≡ list_all (λ v. property_round_trips l.codepage v.1) (map pair_stored (drop l.value-index l.stored))
