use Rattle.std.proofs.Common.{◌<◌, ◌^◌, map}
use Rattle.std.specs.List.{AllByRecursion}
use Rattle.msi_props.specs.Held.{pair_in}
use Rattle.msi_props.specs.Kept.{Rise}
use Rattle.msi_props.proofs.SetFits.{Decides, RiseFrom, from_place}
use Rattle.msi_props.proofs.writable.do_rise.Given as goal

-- the numbers to come decide
abbrev pub invariant-loop-value : goal.invariant-loop-value
invariant-loop-value l = Decides (Rise (map pair_in l.values) × AllByRecursion (λ v. v.0 < 2 ^ 32) (map pair_in l.values)) (RiseFrom l.least (from_place l.value-index l.values))
