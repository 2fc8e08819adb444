-- An index is that of its list, whatever the list lies over and however many steps were taken.
use Rattle.std.proofs.Common.{ℕ}
use Rattle.msi_pool_index.specs.PoolIndex.{PoolIndexParts, PoolIndexMatches, UnderlyingPlaces}

pub still_indexed : (parts : PoolIndexParts) (under : UnderlyingPlaces) (steps : ℕ) → PoolIndexMatches parts → PoolIndexMatches (record parts { under = under; steps = steps })
still_indexed parts under steps x = record { few = x.few; frees = x.frees; rooms = x.rooms }

-- and so back
pub indexed_before : (parts : PoolIndexParts) (under : UnderlyingPlaces) (steps : ℕ) → PoolIndexMatches (record parts { under = under; steps = steps }) → PoolIndexMatches parts
indexed_before parts under steps x = record { few = x.few; frees = x.frees; rooms = x.rooms }
