use Rattle.std.proofs.Common.{◌≡◌, drop, map}
use Rattle.std.specs.List.{list_any}
use Rattle.msi_props.specs.Held.{pair_in}
use Rattle.msi_props.specs.Props.{is_i1}
use Rattle.msi_props.proofs.writing.has_i1.Given as goal

-- it depends on the values to come
abbrev pub invariant-loop-value : goal.invariant-loop-value
invariant-loop-value l = list_any (λ v. is_i1 v.1) (map pair_in l.values) ≡ list_any (λ v. is_i1 v.1) (map pair_in (drop l.value-index l.values))
