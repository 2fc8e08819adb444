use Rattle.std.proofs.Common.{◌≡◌, map}
use Rattle.msi_props.specs.Held.{pair_in}
use Rattle.msi_props.specs.Props.{Property, property_put}
use Rattle.msi_props.proofs.Putting.{put_from}
use Rattle.msi_props.proofs.values.place_of.Given as goal

-- what is put comes behind the values so far
abbrev pub invariant-loop-place : goal.invariant-loop-place
invariant-loop-place l = (v : Property) → property_put l.number v (map pair_in l.values) ≡ put_from l.place l.number v l.values
