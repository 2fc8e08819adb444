-- What a use more leaves of a pool: the texts that are used stay, and the new one stands at its place.
use Rattle.std.proofs.Common.{◌≡◌, ℕ, zero, suc, ◌+◌, ◌-◌, Bool, true, false, not, List, [], ◌∷◌, refl, sym, arith, if◌then◌else◌}
use Rattle.std.specs.Prelude.{◌==◌, ◌||◌, ◌&&◌, nat_lt, bytes_eq, slice_index_or}
use Rattle.std.proofs.lemmas.Slice.Eq.{bytes_eq-Decides}
use Rattle.std.proofs.lemmas.Grind.{common_steps}
use Rattle.msi_pool.specs.Pool.{PoolEntry, empty_pool_entry, place_among, takes, with_refcount_up}
use Rattle.msi_pool_index.proofs.PoolPlaces.{place_among-pos}

-- the text at an index has a use
abbrev pub in_use : List PoolEntry → ℕ → Bool
in_use ps i = not ((slice_index_or ps i empty_pool_entry).count == 0)

abbrev pub text_at : List PoolEntry → ℕ → List ℕ
text_at ps i = (slice_index_or ps i empty_pool_entry).text

-- a used place that takes the text has it
has_text : (t : List ℕ) (p : PoolEntry) → takes t p ≡ true → not (p.count == 0) ≡ true → t ≡ p.text
has_text t p it used = on (p.count == 0) (bytes_eq p.text t) it used (λ e. sym ((bytes_eq-Decides p.text t).0 e))
  where
    on : (none same : Bool) → (none || (same && nat_lt p.count 65535)) ≡ true → not none ≡ true → (same ≡ true → t ≡ p.text) → t ≡ p.text
    on true same it used known = absurd (cc used)
    on false true it used known = known refl
    on false false it used known = absurd (cc it)

more : (n : ℕ) → not (n + 1 == 0) ≡ true
more n = grind (arith, common_steps)

-- a place that has a use keeps it, and its text
pub kept_at : (t : List ℕ) (ps : List PoolEntry) (i : ℕ) → in_use ps i ≡ true → (text_at (with_refcount_up t ps) i ≡ text_at ps i) × (in_use (with_refcount_up t ps) i ≡ true)
kept_at t [] i is = absurd (cc is)
kept_at t (p ∷ ps) i is = on (takes t p) refl i is (kept_at t ps)
  where
    on : (b : Bool) → takes t p ≡ b → (i : ℕ) → in_use (p ∷ ps) i ≡ true → ((k : ℕ) → in_use ps k ≡ true → (text_at (with_refcount_up t ps) k ≡ text_at ps k) × (in_use (with_refcount_up t ps) k ≡ true))
        → (text_at (if b then record { text = t; count = p.count + 1 } ∷ ps else p ∷ with_refcount_up t ps) i ≡ text_at (p ∷ ps) i)
        × (in_use (if b then record { text = t; count = p.count + 1 } ∷ ps else p ∷ with_refcount_up t ps) i ≡ true)
    on true it zero is deeper = (has_text t p it is, more p.count)
    on true it (suc k) is deeper = (refl, is)
    on false it zero is deeper = (refl, is)
    on false it (suc k) is deeper = deeper k is

-- the text stands at its place, with a use
pub stands_at : (t : List ℕ) (ps : List PoolEntry) → (text_at (with_refcount_up t ps) (place_among t ps - 1) ≡ t) × (in_use (with_refcount_up t ps) (place_among t ps - 1) ≡ true)
stands_at t [] = (refl, refl)
stands_at t (p ∷ ps) = on (takes t p) (stands_at t ps)
  where
    on : (b : Bool) → (text_at (with_refcount_up t ps) (place_among t ps - 1) ≡ t) × (in_use (with_refcount_up t ps) (place_among t ps - 1) ≡ true)
        → (text_at (if b then record { text = t; count = p.count + 1 } ∷ ps else p ∷ with_refcount_up t ps) ((if b then 1 else place_among t ps + 1) - 1) ≡ t)
        × (in_use (if b then record { text = t; count = p.count + 1 } ∷ ps else p ∷ with_refcount_up t ps) ((if b then 1 else place_among t ps + 1) - 1) ≡ true)
    on true deeper = (refl, more p.count)
    on false deeper = (let one : place_among t ps + 1 - 1 ≡ suc (place_among t ps - 1) = omega (arith, place_among-pos t ps) in rw one deeper)
