-- The places of a string pool: texts with the number of their uses.
use Rattle.std.specs.Prelude.{ℕ, zero, suc, ◌+◌, ◌-◌, ◌||◌, ◌&&◌, Bool, List, [], ◌∷◌, map, nat_lt, ◌==◌, if◌then◌else◌, bytes_eq, slice_index_or}
use Rattle.std.specs.Prelude.{String, string_bytes}
use Rattle.std.specs.declared.alloc.Global.{Global}

-- a text and the number of its uses; a place without a use is free
pub record PoolEntry : Type 0 where
  pub text : List ℕ
  pub count : ℕ

-- a new use of the text may go here
abbrev pub takes : List ℕ → PoolEntry → Bool
takes t p = p.count == 0 || (bytes_eq p.text t && nat_lt p.count 65535)

-- the number of the first place that takes the text, or one past the last; places are numbered from 1
abbrev pub place_among : List ℕ → List PoolEntry → ℕ
place_among t [] = 1
place_among t (p ∷ ps) = if takes t p then 1 else place_among t ps + 1

-- the places with one more use of the text
abbrev pub with_refcount_up : List ℕ → List PoolEntry → List PoolEntry
with_refcount_up t [] = record { text = t; count = 1 } ∷ []
with_refcount_up t (p ∷ ps) = if takes t p then record { text = t; count = p.count + 1 } ∷ ps else p ∷ with_refcount_up t ps

-- a place with one use less: the last takes the text with it
abbrev pub released_entry : PoolEntry → PoolEntry
released_entry p = if nat_lt p.count 2 then record { text = []; count = 0 } else record p { count = p.count - 1 }

-- the places with one use less at place n
abbrev pub with_refcount_down : ℕ → List PoolEntry → List PoolEntry
with_refcount_down n [] = []
with_refcount_down zero ps = ps
with_refcount_down (suc zero) (p ∷ ps) = released_entry p ∷ ps
with_refcount_down (suc (suc n)) (p ∷ ps) = p ∷ with_refcount_down (suc n) ps

-- the empty text without a use
abbrev pub empty_pool_entry : PoolEntry
empty_pool_entry = record { text = []; count = 0 }

-- the text and the count at a place; past the last the empty text and 0
abbrev pub pool_entry_at : List PoolEntry → ℕ → PoolEntry
pool_entry_at ps n = slice_index_or ps (n - 1) empty_pool_entry

-- the places as they are kept
abbrev pub place_of : String Global × ℕ → PoolEntry
place_of s = record { text = string_bytes s.0; count = s.1 }

-- all of them
abbrev pub places_of : List (String Global × ℕ) → List PoolEntry
places_of ss = map place_of ss
