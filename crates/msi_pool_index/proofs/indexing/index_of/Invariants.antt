use Rattle.std.proofs.Common.{take}
use Rattle.msi_pool_index.specs.Places.{places_of}
use Rattle.msi_pool_index.specs.PoolIndex.{PoolIndexMatches}
use Rattle.msi_pool_index.specs.PoolParts.{parts_of}
use Rattle.msi_pool_index.proofs.indexing.index_of.Given as goal

-- the places so far have their index
abbrev pub invariant-loop-index : goal.invariant-loop-index
invariant-loop-index l = PoolIndexMatches (parts_of (places_of (take l.index l.list)) l.free l.room 0)
