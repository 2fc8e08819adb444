use Rattle.std.proofs.Common.{map}
use Rattle.std.specs.List.{AllByRecursion}
use Rattle.msi_props.specs.Held.{pair_in}
use Rattle.msi_props.specs.Kept.{IsKeptValue}
use Rattle.msi_props.proofs.SetFits.{Decides, from_place}
use Rattle.msi_props.proofs.writable.are_kept.Given as goal

-- the values to come decide
abbrev pub invariant-loop-value : goal.invariant-loop-value
invariant-loop-value l = Decides (AllByRecursion (λ v. IsKeptValue l.codepage v.1) (map pair_in l.values)) (AllByRecursion (λ v. IsKeptValue l.codepage v.1) (from_place l.value-index l.values))
