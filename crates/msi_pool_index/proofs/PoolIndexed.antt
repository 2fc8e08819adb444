-- The index of a list of places: where the next use of a text goes, and what it is after a place has changed.
use Rattle.std.proofs.Common.{◌≡◌, ◌≢◌, ℕ, zero, suc, ◌+◌, ◌<◌, ◌≤◌, ◌^◌, ◌⊎◌, inl, inr, Bool, true, false, cond, List, [], ◌∷◌, ◌++◌, length, Option, Some, None, get_or, refl, ap, sym, ◌∙◌, subst, arith, length-append}
use Rattle.std.specs.Prelude.{slice_set, nat_lt, ◌==◌, ◌&&◌, ◌||◌, not, bytes_eq, unwrap_or}
use Rattle.std.proofs.lemmas.Bool.Decides.{nat_tests}
use Rattle.std.proofs.lemmas.List.{length-set}
use Rattle.msi_pool_index.specs.Places.{PoolEntry, takes, place_among}
use Rattle.msi_pool_index.specs.PoolIndex.{PoolIndexParts, PoolIndexMatches, IsLeast, KeepsRoom, is_free, is_roomy, passes_at}
use Rattle.msi_pool_index.proofs.PoolRooms.{eq_turned}

pub passes-set_here : (test : PoolEntry → Bool) (ps : List PoolEntry) (i : ℕ) (p : PoolEntry) → i < length ps → passes_at test (slice_set ps i p) i ≡ test p
passes-set_here test [] i p h = absurd (omega arith)
passes-set_here test (q ∷ ps) zero p h = refl
passes-set_here test (q ∷ ps) (suc i) p h = passes-set_here test ps i p (omega arith)

pub passes-set_other : (test : PoolEntry → Bool) (ps : List PoolEntry) (i : ℕ) (p : PoolEntry) (k : ℕ) → k ≢ i → passes_at test (slice_set ps i p) k ≡ passes_at test ps k
passes-set_other test [] i p k h = refl
passes-set_other test (q ∷ ps) zero p zero h = absurd (h refl)
passes-set_other test (q ∷ ps) zero p (suc k) h = refl
passes-set_other test (q ∷ ps) (suc i) p zero h = refl
passes-set_other test (q ∷ ps) (suc i) p (suc k) h = passes-set_other test ps i p k (λ e. h (ap suc e))

pub passes-push_here : (test : PoolEntry → Bool) (ps : List PoolEntry) (p : PoolEntry) → passes_at test (ps ++ p ∷ []) (length ps) ≡ test p
passes-push_here test [] p = refl
passes-push_here test (q ∷ ps) p = passes-push_here test ps p

pub passes-push_other : (test : PoolEntry → Bool) (ps : List PoolEntry) (p : PoolEntry) (k : ℕ) → k ≢ length ps → passes_at test (ps ++ p ∷ []) k ≡ passes_at test ps k
passes-push_other test [] p zero h = absurd (h refl)
passes-push_other test [] p (suc k) h = refl
passes-push_other test (q ∷ ps) p zero h = refl
passes-push_other test (q ∷ ps) p (suc k) h = passes-push_other test ps p k (λ e. h (ap suc e))

pub passes-get : (test : PoolEntry → Bool) (ps : List PoolEntry) (i : ℕ) (d : PoolEntry) → i < length ps → passes_at test ps i ≡ test (get_or ps i d)
passes-get test [] i d h = absurd (omega arith)
passes-get test (p ∷ ps) zero d h = refl
passes-get test (p ∷ ps) (suc i) d h = passes-get test ps i d (omega arith)

pub passes-inside : (test : PoolEntry → Bool) (ps : List PoolEntry) (i : ℕ) → passes_at test ps i ≡ true → i < length ps
passes-inside test [] i h = cc
passes-inside test (p ∷ ps) zero h = omega arith
passes-inside test (p ∷ ps) (suc i) h = omega (arith, passes-inside test ps i h)

pub passes-outside : (test : PoolEntry → Bool) (ps : List PoolEntry) (i : ℕ) → length ps ≤ i → passes_at test ps i ≡ false
passes-outside test [] i h = refl
passes-outside test (p ∷ ps) zero h = absurd (omega arith)
passes-outside test (p ∷ ps) (suc i) h = passes-outside test ps i (omega arith)

-- a place takes a text where it is free, or has room for one more use of it
takes_split : (t : List ℕ) (p : PoolEntry) → takes t p ≡ (is_free p || is_roomy t p)
takes_split t p = go (p.count == 0)
  where
    go : (b : Bool) → (b || (bytes_eq p.text t && nat_lt p.count 65535)) ≡ (b || (not b && (bytes_eq t p.text && nat_lt p.count 65535)))
    go true = refl
    go false = ap (λ e. e && nat_lt p.count 65535) (eq_turned p.text t)

passes_split : (t : List ℕ) (ps : List PoolEntry) (k : ℕ) → passes_at (takes t) ps k ≡ (passes_at is_free ps k || passes_at (is_roomy t) ps k)
passes_split t [] k = refl
passes_split t (p ∷ ps) zero = takes_split t p
passes_split t (p ∷ ps) (suc k) = passes_split t ps k

-- no place before the one that takes a text is free
pub none_before : (t : List ℕ) (ps : List PoolEntry) (i : ℕ) → i + 1 ≡ place_among t ps → (k : ℕ) → k < i → passes_at is_free ps k ≡ false
none_before t [] i at k l = refl
none_before t (p ∷ ps) i at k l = go (takes t p) refl (none_before t ps) i at k l
  where
    not_free : takes t p ≡ false → is_free p ≡ false
    not_free e = left_false (is_free p) (bytes_eq p.text t && nat_lt p.count 65535) e
      where
        left_false : (a b : Bool) → (a || b) ≡ false → a ≡ false
        left_false true b e = e
        left_false false b e = refl

    go : (b : Bool) → takes t p ≡ b → ((i : ℕ) → i + 1 ≡ place_among t ps → (k : ℕ) → k < i → passes_at is_free ps k ≡ false)
        → (i : ℕ) → i + 1 ≡ cond b 1 (place_among t ps + 1) → (k : ℕ) → k < i → passes_at is_free (p ∷ ps) k ≡ false
    go true e ih i at k l = absurd (omega arith)
    go false e ih i at zero l = not_free e
    go false e ih zero at (suc k) l = absurd (omega arith)
    go false e ih (suc i) at (suc k) l = ih i (omega arith) k (omega arith)

-- the first that takes a text
least_place : (t : List ℕ) (ps : List PoolEntry) (i : ℕ) → i ≤ length ps → ((k : ℕ) → k < i → passes_at (takes t) ps k ≡ false) → (i < length ps → passes_at (takes t) ps i ≡ true) → i + 1 ≡ place_among t ps
least_place t [] zero le none some = refl
least_place t [] (suc i) le none some = absurd (omega arith)
least_place t (p ∷ ps) zero le none some = let e : takes t p ≡ true = some (omega arith) in ap (λ b. cond b 1 (place_among t ps + 1)) (sym e)
least_place t (p ∷ ps) (suc i) le none some =
    let e : takes t p ≡ false = none 0 (omega arith) in
    let rest = least_place t ps i (omega arith) (λ k l. none (suc k) (omega arith)) (λ l. some (omega arith)) in
    let later : place_among t (p ∷ ps) ≡ place_among t ps + 1 = ap (λ b. cond b 1 (place_among t ps + 1)) e in
    omega (arith, rest, later)

-- what a look-up tells: the least that passes, or the length
abbrev Told : (ℕ → Bool) → ℕ → ℕ → Type 0
Told passes n i = ((passes i ≡ true) ⊎ (i ≡ n)) × ((k : ℕ) → k < i → passes k ≡ false)

told : (passes : ℕ → Bool) (n : ℕ) (o : Option ℕ) → IsLeast passes o → Told passes n (unwrap_or o n)
told passes n None h = (inr refl, λ k _. h.none k)
told passes n (Some i) h = (inl h.some, h.none_below)

-- the same by a test that is equal
told_by : (passes other : ℕ → Bool) → ((k : ℕ) → passes k ≡ other k) → (n i : ℕ) → Told passes n i → Told other n i
told_by passes other same n i h = (first h.0, λ k l. sym (same k) ∙ h.1 k l)
  where
    first : (passes i ≡ true) ⊎ (i ≡ n) → (other i ≡ true) ⊎ (i ≡ n)
    first (inl e) = inl (sym (same i) ∙ e)
    first (inr e) = inr e

left_true : (a b : Bool) → a ≡ true → (a || b) ≡ true
left_true a b e = ap (λ z. z || b) e

right_true : (a b : Bool) → b ≡ true → (a || b) ≡ true
right_true true b e = refl
right_true false b e = e

both_false : (a b : Bool) → a ≡ false → b ≡ false → (a || b) ≡ false
both_false a b e f = ap (λ z. z || b) e ∙ f

there : (b : Bool) (i n : ℕ) → (b ≡ true) ⊎ (i ≡ n) → i < n → b ≡ true
there b i n (inl e) l = e
there b i n (inr e) l = absurd (omega (arith, e))

module _ (s : PoolIndexParts) (x : PoolIndexMatches s) (t : List ℕ) where
  within_free : (i : ℕ) → (s.free i ≡ true) ⊎ (i ≡ length s.places) → i ≤ length s.places
  within_free i (inl e) = let l = passes-inside is_free s.places i (sym (x.frees i) ∙ e) in omega (arith, l)
  within_free i (inr e) = omega (arith, e)

  within_room : (i : ℕ) → (s.room t i ≡ true) ⊎ (i ≡ length s.places) → i ≤ length s.places
  within_room i (inl e) = let l = passes-inside (is_roomy t) s.places i (sym (x.rooms t i) ∙ e) in omega (arith, l)
  within_room i (inr e) = omega (arith, e)

  either : (k : ℕ) → passes_at (takes t) s.places k ≡ (s.free k || s.room t k)
  either k = passes_split t s.places k ∙ ap (λ b. b || passes_at (is_roomy t) s.places k) (sym (x.frees k)) ∙ ap (λ b. s.free k || b) (sym (x.rooms t k))

  pub lesser_is_place : (a b i : ℕ) → Told s.free (length s.places) a → Told (s.room t) (length s.places) b → (i ≤ a) × (i ≤ b) × ((i ≡ a) ⊎ (i ≡ b)) → i + 1 ≡ place_among t s.places
  lesser_is_place a b i f r h = least_place t s.places i (within h.2) (λ k l. either k ∙ both_false (s.free k) (s.room t k) (f.1 k (omega (arith, l, h.0))) (r.1 k (omega (arith, l, h.1)))) (λ l. either i ∙ found h.2 l)
    where
      within : (i ≡ a) ⊎ (i ≡ b) → i ≤ length s.places
      within (inl e) = let w = within_free a f.0 in omega (arith, e, w)
      within (inr e) = let w = within_room b r.0 in omega (arith, e, w)

      found : (i ≡ a) ⊎ (i ≡ b) → i < length s.places → (s.free i || s.room t i) ≡ true
      found (inl e) l = left_true (s.free i) (s.room t i) (ap s.free e ∙ there (s.free a) a (length s.places) f.0 (omega (arith, e, l)))
      found (inr e) l = right_true (s.free i) (s.room t i) (ap (s.room t) e ∙ there (s.room t b) b (length s.places) r.0 (omega (arith, e, l)))

-- what stands beside the list after one place of it changed
module _ (s n : PoolIndexParts) (x : PoolIndexMatches s) (i : ℕ) (p : PoolEntry) where
  pub record Follows : Type 0 where
    pub other_free : (k : ℕ) → k ≢ i → n.free k ≡ s.free k
    pub own_free : n.free i ≡ is_free p
    pub other_room : (t : List ℕ) (k : ℕ) → k ≢ i → n.room t k ≡ s.room t k
    pub own_room : (t : List ℕ) → n.room t i ≡ is_roomy t p

  follows_so : Follows → (places : List PoolEntry) → ((test : PoolEntry → Bool) → passes_at test places i ≡ test p) → ((test : PoolEntry → Bool) (k : ℕ) → k ≢ i → passes_at test places k ≡ passes_at test s.places k) → n.places ≡ places → length places < 2 ^ 32 → PoolIndexMatches n
  follows_so f places here other is few = record {
    few = few_so;
    frees = λ k. free_at k (k == i) refl;
    rooms = λ t k. room_at t k (k == i) refl;
  }
    where
      few_so : length n.places < 2 ^ 32
      few_so = rw is few

      free_at : (k : ℕ) (b : Bool) → (k == i) ≡ b → n.free k ≡ passes_at is_free n.places k
      free_at k true e = let same : k ≡ i = grind (arith, nat_tests, e) in ap n.free same ∙ f.own_free ∙ sym (here is_free) ∙ ap (passes_at is_free places) (sym same) ∙ ap (λ z. passes_at is_free z k) (sym is)
      free_at k false e = let apart : k ≢ i = grind (arith, nat_tests, e) in f.other_free k apart ∙ x.frees k ∙ sym (other is_free k apart) ∙ ap (λ z. passes_at is_free z k) (sym is)

      room_at : (t : List ℕ) (k : ℕ) (b : Bool) → (k == i) ≡ b → n.room t k ≡ passes_at (is_roomy t) n.places k
      room_at t k true e = let same : k ≡ i = grind (arith, nat_tests, e) in ap (n.room t) same ∙ f.own_room t ∙ sym (here (is_roomy t)) ∙ ap (passes_at (is_roomy t) places) (sym same) ∙ ap (λ z. passes_at (is_roomy t) z k) (sym is)
      room_at t k false e = let apart : k ≢ i = grind (arith, nat_tests, e) in f.other_room t k apart ∙ x.rooms t k ∙ sym (other (is_roomy t) k apart) ∙ ap (λ z. passes_at (is_roomy t) z k) (sym is)

  pub set_is_indexed : Follows → i < length s.places → n.places ≡ slice_set s.places i p → PoolIndexMatches n
  set_is_indexed f inside is = follows_so f (slice_set s.places i p) (λ test. passes-set_here test s.places i p inside) (λ test k apart. passes-set_other test s.places i p k apart) is
      (let l = length-set s.places i p in omega (arith, l, x.few))

  pub push_is_indexed : Follows → i ≡ length s.places → length s.places + 1 < 2 ^ 32 → n.places ≡ s.places ++ p ∷ [] → PoolIndexMatches n
  push_is_indexed f end few is = follows_so f (s.places ++ p ∷ []) (λ test. ap (passes_at test (s.places ++ p ∷ [])) end ∙ passes-push_here test s.places p) (λ test k apart. passes-push_other test s.places p k (λ e. apart (e ∙ sym end))) is
      (let l = length-append s.places (p ∷ []) in omega (arith, l, few))

-- a change of one place, elsewhere and there
pub set_apart : {A : Type 0} (k i : ℕ) (b y : A) → k ≢ i → cond (k == i) b y ≡ y
set_apart k i b y h = let e : (k == i) ≡ false = grind (arith, nat_tests) in ap (λ z. cond z b y) e

pub set_there : {A : Type 0} (i : ℕ) (b y : A) → cond (i == i) b y ≡ b
set_there i b y = let e : (i == i) ≡ true = grind (arith, nat_tests) in ap (λ z. cond z b y) e

pub room_apart : (own : Bool) (k i : ℕ) (b y : Bool) → k ≢ i → cond (own && (k == i)) b y ≡ y
room_apart true k i b y h = set_apart k i b y h
room_apart false k i b y h = refl

pub room_there : (own : Bool) (i : ℕ) (b y : Bool) → cond (own && (i == i)) b y ≡ cond own b y
room_there true i b y = set_there i b y
room_there false i b y = refl

-- the lesser of what set and map tell
pub first_so : (s a : PoolIndexParts) → PoolIndexMatches s → (t : List ℕ) (n : ℕ) → n ≡ length s.places → (o r : Option ℕ) → IsLeast s.free o → KeepsRoom s a → IsLeast (a.room t) r
    → (i x y : ℕ) → x ≡ unwrap_or o n → y ≡ unwrap_or r n → (i ≤ x) × (i ≤ y) × ((i ≡ x) ⊎ (i ≡ y)) → i + 1 ≡ place_among t s.places
first_so s a ix t n end o r lo keeps lr i x y ex ey h =
    lesser_is_place s ix t x y i
    (subst (λ z. Told s.free (length s.places) z) (sym (ex ∙ ap (unwrap_or o) end)) (told s.free (length s.places) o lo))
    (subst (λ z. Told (s.room t) (length s.places) z) (sym (ey ∙ ap (unwrap_or r) end)) (told_by (a.room t) (s.room t) (keeps t) (length s.places) (unwrap_or r (length s.places)) (told (a.room t) (length s.places) r lr)))
    h
