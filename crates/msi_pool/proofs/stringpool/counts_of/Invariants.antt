use Rattle.std.proofs.Common.{◌≡◌, take, map}
use Rattle.msi_pool.specs.Pool.{places_of}
use Rattle.msi_pool.proofs.stringpool.counts_of.Given as goal

-- the counts so far
abbrev pub invariant-loop-count : goal.invariant-loop-count
invariant-loop-count l = l.counts.items ≡ map (λ p. p.count) (places_of (take l.count-index l.strings))
