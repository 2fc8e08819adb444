-- Changes of a pool that are prepared, and not taken over yet.
use Rattle.std.specs.Prelude.{◌≡◌, false}
use Rattle.msi_pool.specs.Pool.{Pool}
use Rattle.msi_pool.specs.PoolDraft.{AreChangesOver, adopted}
use Rattle.msi_pool.specs.PoolState.{PoolState}
use Rattle.msi_pool.specs.declared.draft.PoolChanges.{PoolChanges}

-- the pool once it took the changes over
abbrev pub pool_after : PoolState → PoolChanges → Pool
pool_after state changes = (adopted state.pool.places changes).pool

-- the pool can take the changes over, which leave it as it is where they don't mark it as modified
pub record AreChangesFor (state : PoolState) (changes : PoolChanges) : Type 0 where
  pub over : AreChangesOver state.pool.places changes
  pub marked : (adopted state.pool.places changes).modified ≡ false → adopted state.pool.places changes ≡ state
