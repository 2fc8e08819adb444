-- The counts of places where a use is added or taken back.
use Rattle.std.proofs.Common.{◌≡◌, ℕ, zero, suc, ◌+◌, ◌-◌, ◌<◌, Bool, true, false, cond, List, [], ◌∷◌, refl, arith}
use Rattle.std.specs.Prelude.{◌==◌, nat_lt, slice_index_or, if◌then◌else◌}
use Rattle.std.proofs.lemmas.Bool.Decides.{nat_tests}
use Rattle.msi_pool.specs.Pool.{PoolEntry, empty_pool_entry, released_entry, place_among, takes, with_refcount_up, with_refcount_down}
use Rattle.msi_pool_index.proofs.PoolPlaces.{place_among-pos}
use Rattle.msi_changes.proofs.Kept.{text_at}

abbrev pub count_at : List PoolEntry → ℕ → ℕ
count_at ps i = (slice_index_or ps i empty_pool_entry).count

-- a use more
pub count_used : (t : List ℕ) (ps : List PoolEntry) (i : ℕ) → count_at (with_refcount_up t ps) i ≡ count_at ps i + cond (place_among t ps == i + 1) 1 0
count_used t [] zero = refl
count_used t [] (suc i) = grind (arith, nat_tests)
count_used t (p ∷ ps) i = on (takes t p) (count_used t ps) i
  where
    on : (b : Bool) → ((k : ℕ) → count_at (with_refcount_up t ps) k ≡ count_at ps k + cond (place_among t ps == k + 1) 1 0) → (i : ℕ)
        → count_at (if b then record { text = t; count = p.count + 1 } ∷ ps else p ∷ with_refcount_up t ps) i ≡ count_at (p ∷ ps) i + cond ((if b then 1 else place_among t ps + 1) == i + 1) 1 0
    on true deeper zero = refl
    on true deeper (suc k) = grind (arith, nat_tests)
    on false deeper zero = grind (arith, nat_tests, place_among-pos t ps)
    on false deeper (suc k) = grind (arith, nat_tests, deeper k)

one_fewer : (p : PoolEntry) → ((released_entry p).count ≡ p.count - 1) × (0 < (released_entry p).count → (released_entry p).text ≡ p.text)
one_fewer p = on (nat_lt p.count 2) refl
  where
    on : (b : Bool) → nat_lt p.count 2 ≡ b
        → ((if b then record { text = []; count = 0 } else record p { count = p.count - 1 }).count ≡ p.count - 1)
        × (0 < (if b then record { text = []; count = 0 } else record p { count = p.count - 1 }).count → (if b then record { text = []; count = 0 } else record p { count = p.count - 1 }).text ≡ p.text)
    on true few = (grind (arith, nat_tests), λ some. absurd (omega (arith, some)))
    on false many = (refl, λ some. refl)

-- a use less: a place that has uses left keeps its text
pub count_left : (m : ℕ) (ps : List PoolEntry) (i : ℕ)
    → (count_at (with_refcount_down (suc m) ps) i ≡ count_at ps i - cond (m == i) 1 0) × (0 < count_at (with_refcount_down (suc m) ps) i → text_at (with_refcount_down (suc m) ps) i ≡ text_at ps i)
count_left m [] i = (grind (arith, nat_tests), λ some. refl)
count_left zero (p ∷ ps) zero = one_fewer p
count_left zero (p ∷ ps) (suc i) = (grind (arith, nat_tests), λ some. refl)
count_left (suc m) (p ∷ ps) zero = (grind (arith, nat_tests), λ some. refl)
count_left (suc m) (p ∷ ps) (suc i) = (let deeper = count_left m ps i in (grind (arith, nat_tests, deeper.0), deeper.1))
