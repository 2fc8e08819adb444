-- What is seen of a pool in memory.
use Rattle.std.specs.Prelude.{ℕ, Bool, true, ◌&&◌, List, length, nat_lt}
use Rattle.std.specs.List.{list_all}
use Rattle.msi_pool.specs.Pool.{PoolEntry, Pool, pool_stream, stored_of}

-- the list with its page and width, whether it may differ from what was last written or read, and the steps that were taken on list, set and map
pub record PoolState : Type 0 where
  pub pool : Pool
  pub modified : Bool
  pub steps : ℕ

-- after a change, with this count of steps
abbrev pub changed_to : ℕ → Pool → PoolState
changed_to steps pool = record { pool = pool; modified = true; steps = steps }

-- the same with this count of steps
abbrev pub after_steps : ℕ → PoolState → PoolState
after_steps steps state = record state { steps = steps }

-- no text and no pool stream reaches this length
abbrev pub length_limit : ℕ
length_limit = 4294967295

-- the pool stream and each text can be written
abbrev pub is_in_size : Pool → Bool
is_in_size pool = nat_lt (length (pool_stream pool)) length_limit && list_all (λ s. nat_lt (length s.0) length_limit) (stored_of pool)

-- a draft: the pool that it shows, with the steps that were taken on the one that it lies over; the places of that one; and the steps that were taken on the draft
pub record Drafted : Type 0 where
  pub state : PoolState
  pub under : List PoolEntry
  pub steps : ℕ
