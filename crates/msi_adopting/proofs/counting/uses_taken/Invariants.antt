use Rattle.std.proofs.Common.{◌≡◌, ◌-◌, take, map}
use Rattle.msi_adopting.proofs.counting.uses_taken.Given as goal

-- what was taken so far
abbrev pub invariant-loop-count : goal.invariant-loop-count
invariant-loop-count l = l.uses.items ≡ map (λ n. 65535 - n) (take l.count-index l.left)
