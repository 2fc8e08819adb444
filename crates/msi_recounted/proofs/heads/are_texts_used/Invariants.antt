use Rattle.std.proofs.Common.{◌+◌, drop}
use Rattle.std.specs.Prelude.{◌↔◌}
use Rattle.msi_pool.specs.PoolKept.{AreFreeEmpty}
use Rattle.msi_recounted.specs.Counts.{listed_uses, pool_with, with_uses}
use Rattle.msi_recounted.proofs.heads.are_texts_used.Given as goal

-- each text has a use just where each of those to come has one
abbrev pub invariant-loop-index : goal.invariant-loop-index
invariant-loop-index l =
    AreFreeEmpty (pool_with (listed_uses l.uses) l.pool.pool).places ↔ AreFreeEmpty (with_uses (listed_uses l.uses) (l.index + 1) (drop l.index l.pool.pool.places))
