-- The first place that takes a text, and the list after its use.
use Rattle.std.proofs.Common.{◌≡◌, ℕ, zero, suc, ◌+◌, ◌<◌, ◌≤◌, Bool, true, false, cond, List, [], ◌∷◌, ◌++◌, length, get_or, refl, ap, arith}
use Rattle.std.specs.Prelude.{slice_set}
use Rattle.std.proofs.lemmas.Bool.Decides.{nat_tests}
use Rattle.msi_pool_index.specs.Places.{PoolEntry, takes, place_among, with_refcount_up, released_entry, with_refcount_down}

abbrev with_one_more : List ℕ → PoolEntry → PoolEntry
with_one_more t p = record { text = t; count = p.count + 1 }

-- places are numbered from 1
pub place_among-pos : (t : List ℕ) (ps : List PoolEntry) → 0 < place_among t ps
place_among-pos t [] = omega arith
place_among-pos t (p ∷ ps) = go (takes t p)
  where
    go : (b : Bool) → 0 < cond b 1 (place_among t ps + 1)
    go true = omega arith
    go false = omega arith

-- at the first place that takes the text, its count rises
pub with_use-set : (t : List ℕ) (ps : List PoolEntry) (i : ℕ) (d : PoolEntry) → i + 1 ≡ place_among t ps → i < length ps →
    slice_set ps i (with_one_more t (get_or ps i d)) ≡ with_refcount_up t ps
with_use-set t [] i d h l = absurd (omega arith)
with_use-set t (p ∷ ps) i d h l = go (takes t p) (with_use-set t ps) i h l
  where
    go : (b : Bool) → ((i : ℕ) (d : PoolEntry) → i + 1 ≡ place_among t ps → i < length ps → slice_set ps i (with_one_more t (get_or ps i d)) ≡ with_refcount_up t ps) →
        (i : ℕ) → i + 1 ≡ cond b 1 (place_among t ps + 1) → i < suc (length ps) →
        slice_set (p ∷ ps) i (with_one_more t (get_or (p ∷ ps) i d)) ≡ cond b (with_one_more t p ∷ ps) (p ∷ with_refcount_up t ps)
    go true ih zero h l = refl
    go true ih (suc i) h l = absurd (omega arith)
    go false ih zero h l = absurd (omega (arith, place_among-pos t ps))
    go false ih (suc i) h l = ap (λ z. p ∷ z) (ih i d (omega arith) (omega arith))

-- past the last a new place is made
pub with_use-push : (t : List ℕ) (ps : List PoolEntry) (i : ℕ) → i + 1 ≡ place_among t ps → length ps ≤ i →
    ps ++ record { text = t; count = 1 } ∷ [] ≡ with_refcount_up t ps
with_use-push t [] i h l = refl
with_use-push t (p ∷ ps) i h l = go (takes t p) (with_use-push t ps) i h l
  where
    go : (b : Bool) → ((i : ℕ) → i + 1 ≡ place_among t ps → length ps ≤ i → ps ++ record { text = t; count = 1 } ∷ [] ≡ with_refcount_up t ps) →
        (i : ℕ) → i + 1 ≡ cond b 1 (place_among t ps + 1) → suc (length ps) ≤ i →
        p ∷ (ps ++ record { text = t; count = 1 } ∷ []) ≡ cond b (with_one_more t p ∷ ps) (p ∷ with_refcount_up t ps)
    go true ih i h l = absurd (omega arith)
    go false ih zero h l = absurd (omega arith)
    go false ih (suc i) h l = ap (λ z. p ∷ z) (ih i (omega arith) (omega arith))

-- the place that takes a text has room for a use
pub place_among-room : (t : List ℕ) (ps : List PoolEntry) (i : ℕ) (d : PoolEntry) → i + 1 ≡ place_among t ps → i < length ps → (get_or ps i d).count < 65535
place_among-room t [] i d h l = absurd (omega arith)
place_among-room t (p ∷ ps) i d h l = go (takes t p) refl (place_among-room t ps) i h l
  where
    go : (b : Bool) → takes t p ≡ b → ((i : ℕ) (d : PoolEntry) → i + 1 ≡ place_among t ps → i < length ps → (get_or ps i d).count < 65535) →
        (i : ℕ) → i + 1 ≡ cond b 1 (place_among t ps + 1) → i < suc (length ps) → (get_or (p ∷ ps) i d).count < 65535
    go true e ih zero h l = grind (arith, nat_tests, e)
    go true e ih (suc i) h l = absurd (omega arith)
    go false e ih zero h l = absurd (omega (arith, place_among-pos t ps))
    go false e ih (suc i) h l = ih i d (omega arith) (omega arith)

-- at a place with a use the count falls
pub without_use-set : (n : ℕ) (ps : List PoolEntry) (i : ℕ) (d : PoolEntry) → i + 1 ≡ n → i < length ps → slice_set ps i (released_entry (get_or ps i d)) ≡ with_refcount_down n ps
without_use-set n [] i d h l = absurd (omega arith)
without_use-set zero (p ∷ ps) i d h l = absurd (omega arith)
without_use-set (suc zero) (p ∷ ps) zero d h l = refl
without_use-set (suc zero) (p ∷ ps) (suc i) d h l = absurd (omega arith)
without_use-set (suc (suc n)) (p ∷ ps) zero d h l = absurd (omega arith)
without_use-set (suc (suc n)) (p ∷ ps) (suc i) d h l = ap (λ z. p ∷ z) (without_use-set (suc n) ps i d (omega arith) (omega arith))
