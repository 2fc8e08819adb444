-- Pools that have all memory to take over what a draft changed.
use Rattle.msi_pool.specs.PoolState.{PoolState}

-- the pool as it is, and as it is once the changes are taken over
pub record ReadyState : Type 0 where
  pub state : PoolState
  pub next : PoolState
