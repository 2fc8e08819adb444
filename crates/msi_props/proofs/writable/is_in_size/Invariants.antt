use Rattle.std.proofs.Common.{◌≡◌, ◌+◌, ◌*◌, map}
use Rattle.msi_props.specs.Held.{pair_in}
use Rattle.msi_props.proofs.SetFits.{from_place, need}
use Rattle.msi_props.proofs.writable.is_in_size.Given as goal

-- what is left, and what is needed yet
abbrev pub invariant-loop-value : goal.invariant-loop-value
invariant-loop-value l = 4 * l.left + need l.codepage (map pair_in l.values) ≡ 4294967236 + need l.codepage (from_place l.value-index l.values)
