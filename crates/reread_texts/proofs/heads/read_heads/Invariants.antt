use Rattle.std.proofs.Common.{◌≡◌, ◌≤◌, ℕ, ◌++◌, length, Ok}
use Rattle.msi_texts.specs.Results.{◌>>=◌}
use Rattle.msi_pool.specs.PoolReading.{heads_at}
use Rattle.reread_texts.proofs.heads.read_heads.Given as goal

-- the heads so far, and those to come
abbrev pub invariant-loop-rest : goal.invariant-loop-rest
invariant-loop-rest l = (most : ℕ) × (length l.rest ≤ most) × (heads_at (length l.bytes) l.bytes ≡ (heads_at most l.rest >>= λ more. Ok (l.heads.items ++ more)))

abbrev pub decreases-loop-rest : goal.decreases-loop-rest
decreases-loop-rest l = length l.rest
