use Rattle.std.proofs.Common.{◌≡◌, ◌++◌, drop, map, Ok}
use Rattle.msi_texts.specs.Results.{◌>>=◌}
use Rattle.msi_props.specs.Held.{pair_stored}
use Rattle.msi_props.specs.Props.{properties_at}
use Rattle.msi_props.proofs.stored.read_values.Given as goal

-- the values so far, and those to come
abbrev pub invariant-loop-number : goal.invariant-loop-number
invariant-loop-number l =
    properties_at l.version l.section l.pairs ≡ (properties_at l.version l.section (drop l.number-index l.pairs) >>= λ more. Ok (map pair_stored l.values.items ++ more))
