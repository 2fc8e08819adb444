use Rattle.std.proofs.Common.{◌≡◌, ◌+◌, ◌++◌, drop, map}
use Rattle.std.specs.List.{flat_map}
use Rattle.msi_pool.specs.Pool.{head_of, pool_stream, stored_place}
use Rattle.msi_recounted.specs.Counts.{listed_uses, pool_with, with_uses}
use Rattle.msi_recounted.proofs.heads.recounted_stream.Given as goal

-- the bytes so far and those to come are all
abbrev pub invariant-loop-index : goal.invariant-loop-index
invariant-loop-index l =
    l.bytes.items ++ flat_map head_of (map (stored_place l.pool.pool.page) (with_uses (listed_uses l.uses) (l.index + 1) (drop l.index l.pool.pool.places)))
    ≡ pool_stream (pool_with (listed_uses l.uses) l.pool.pool)
