-- A pool with other counts.
use Rattle.std.specs.Prelude.{ℕ, ◌+◌, ◌-◌, List, [], ◌∷◌, slice_index_or}
use Rattle.msi_pool.specs.Pool.{PoolEntry, Pool}

-- the places from number n on, each with as many uses as are told of it
abbrev pub with_uses : (ℕ → ℕ) → ℕ → List PoolEntry → List PoolEntry
with_uses uses n [] = []
with_uses uses n (p ∷ ps) = record { text = p.text; count = uses n } ∷ with_uses uses (n + 1) ps

-- the pool whose places have these uses
abbrev pub pool_with : (ℕ → ℕ) → Pool → Pool
pool_with uses pool = record pool { places = with_uses uses 1 pool.places }

-- the uses of place n by a list, which has those of place 1 first
abbrev pub listed_uses : List ℕ → ℕ → ℕ
listed_uses uses n = slice_index_or uses (n - 1) 0
