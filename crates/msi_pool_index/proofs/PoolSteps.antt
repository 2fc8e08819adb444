-- The index after each change of the list that a use makes or takes back.
use Rattle.std.proofs.Common.{◌≡◌, ℕ, zero, suc, ◌+◌, ◌-◌, ◌<◌, ◌≤◌, ◌^◌, Bool, true, false, cond, List, [], ◌∷◌, ◌++◌, length, get_or, Some, refl, ap, sym, ◌∙◌, arith}
use Rattle.std.specs.Prelude.{Result, Ok, Err, OnOk, OnErr, slice_set, nat_lt, ◌==◌, ◌&&◌, ◌||◌, not, bytes_eq}
use Rattle.std.proofs.lemmas.Bool.Decides.{nat_tests}
use Rattle.std.proofs.lemmas.Slice.Eq.{bytes_eq-Decides}
use Rattle.msi_pool_index.specs.Places.{PoolEntry, takes, place_among, empty_pool_entry, released_entry, with_refcount_down}
use Rattle.msi_pool_index.specs.PoolIndex.{PoolIndexParts, PoolIndexMatches, IsLeast, KeepsAll, KeepsFree, KeepsRoom, SetsFree, SetsRoom, is_free, is_roomy, passes_at}
use Rattle.msi_pool_index.proofs.PoolPlaces.{place_among-pos, without_use-set}
use Rattle.msi_pool_index.proofs.PoolIndexed.{none_before, set_is_indexed, push_is_indexed, set_apart, set_there, room_apart, room_there, passes-get, passes-outside}

-- ---- what the tests say of a place

roomy_is : (t : List ℕ) (q : PoolEntry) → 0 < q.count → q.count < 65535 → is_roomy t q ≡ bytes_eq t q.text
roomy_is t q some few = go (q.count == 0) (nat_lt q.count 65535) refl refl (bytes_eq t q.text)
  where
    go : (a b : Bool) → (q.count == 0) ≡ a → nat_lt q.count 65535 ≡ b → (e : Bool) → (not a && (e && b)) ≡ e
    go true b f g e = absurd (grind (arith, nat_tests, f))
    go false true f g true = refl
    go false true f g false = refl
    go false false f g e = absurd (grind (arith, nat_tests, g))

roomy_free : (t : List ℕ) (q : PoolEntry) → q.count ≡ 0 → is_roomy t q ≡ false
roomy_free t q none = let e : (q.count == 0) ≡ true = grind (arith, nat_tests) in ap (λ b. not b && (bytes_eq t q.text && nat_lt q.count 65535)) e

roomy_full : (t : List ℕ) (q : PoolEntry) → 65535 ≤ q.count → is_roomy t q ≡ false
roomy_full t q full = go (q.count == 0) (nat_lt q.count 65535) refl (bytes_eq t q.text)
  where
    go : (a b : Bool) → nat_lt q.count 65535 ≡ b → (e : Bool) → (not a && (e && b)) ≡ false
    go a true g e = absurd (grind (arith, nat_tests, g))
    go true false g e = refl
    go false false g true = refl
    go false false g false = refl

free_is : (q : PoolEntry) → q.count ≡ 0 → is_free q ≡ true
free_is q none = grind (arith, nat_tests)

free_not : (q : PoolEntry) → 0 < q.count → is_free q ≡ false
free_not q some = grind (arith, nat_tests)

last_less : (q : PoolEntry) → q.count ≡ 1 → released_entry q ≡ empty_pool_entry
last_less q one = let e : nat_lt q.count 2 ≡ true = grind (arith, nat_tests) in ap (λ b. cond b empty_pool_entry (record q { count = q.count - 1 })) e

more_less : (q : PoolEntry) → 1 < q.count → released_entry q ≡ record q { count = q.count - 1 }
more_less q more = let e : nat_lt q.count 2 ≡ false = grind (arith, nat_tests) in ap (λ b. cond b empty_pool_entry (record q { count = q.count - 1 })) e

gained : (b y : Bool) → y ≡ false → cond b true y ≡ b
gained true y e = refl
gained false y e = e

lost : (b y : Bool) → y ≡ b → cond b false y ≡ false
lost true y e = refl
lost false y e = e

pub used_inside : (ps : List PoolEntry) (i : ℕ) → 0 < (get_or ps i empty_pool_entry).count → i < length ps
used_inside [] i h = absurd (omega arith)
used_inside (p ∷ ps) zero h = omega arith
used_inside (p ∷ ps) (suc i) h = omega (arith, used_inside ps i h)

-- ---- the list

-- a place that takes a text and isn't free holds it
pub used_again : (t : List ℕ) (ps : List PoolEntry) (i : ℕ) → i + 1 ≡ place_among t ps → 0 < (get_or ps i empty_pool_entry).count → get_or ps i empty_pool_entry ≡ record { text = t; count = (get_or ps i empty_pool_entry).count }
used_again t [] i h used = absurd (omega arith)
used_again t (p ∷ ps) i h used = go (takes t p) refl (used_again t ps) i h used
  where
    same : (takes t p ≡ true) → 0 < p.count → p.text ≡ t
    same e some = go2 (p.count == 0) (bytes_eq p.text t) refl refl e
      where
        go2 : (a b : Bool) → (p.count == 0) ≡ a → bytes_eq p.text t ≡ b → (a || (b && nat_lt p.count 65535)) ≡ true → p.text ≡ t
        go2 true b f g e = absurd (grind (arith, nat_tests, f))
        go2 false true f g e = (bytes_eq-Decides p.text t).0 g
        go2 false false f g e = cc

    go : (b : Bool) → takes t p ≡ b → ((i : ℕ) → i + 1 ≡ place_among t ps → 0 < (get_or ps i empty_pool_entry).count → get_or ps i empty_pool_entry ≡ record { text = t; count = (get_or ps i empty_pool_entry).count })
        → (i : ℕ) → i + 1 ≡ cond b 1 (place_among t ps + 1) → 0 < (get_or (p ∷ ps) i empty_pool_entry).count → get_or (p ∷ ps) i empty_pool_entry ≡ record { text = t; count = (get_or (p ∷ ps) i empty_pool_entry).count }
    go true e ih zero h used = ap (λ x. record { text = x; count = p.count }) (same e used)
    go true e ih (suc i) h used = absurd (omega arith)
    go false e ih zero h used = absurd (omega (arith, place_among-pos t ps))
    go false e ih (suc i) h used = ih i (omega arith) used

-- a use that was taken back
pub taken_so : (ps qs rs : List PoolEntry) (i : ℕ) → qs ≡ ps → i < length ps → rs ≡ slice_set qs i (released_entry (get_or qs i empty_pool_entry)) → rs ≡ with_refcount_down (i + 1) ps
taken_so ps qs rs i same inside is = is ∙ ap (λ z. slice_set z i (released_entry (get_or z i empty_pool_entry))) same ∙ without_use-set (i + 1) ps i empty_pool_entry refl inside

-- ---- what stands beside it

module _ (s n : PoolIndexParts) (x : PoolIndexMatches s) where
  pub pushed_indexed : (t0 : List ℕ) → KeepsFree s n → SetsRoom t0 (length s.places) true s n → length s.places < 2 ^ 24 → n.places ≡ s.places ++ record { text = t0; count = 1 } ∷ [] → PoolIndexMatches n
  pushed_indexed t0 free room few is = push_is_indexed s n x (length s.places) p (record {
    other_free = λ k apart. free k;
    own_free = free (length s.places) ∙ x.frees (length s.places) ∙ passes-outside is_free s.places (length s.places) (omega arith);
    other_room = λ t k apart. room t k ∙ room_apart (bytes_eq t t0) k (length s.places) true (s.room t k) apart;
    own_room = λ t. room t (length s.places) ∙ room_there (bytes_eq t t0) (length s.places) true (s.room t (length s.places)) ∙ gained (bytes_eq t t0) (s.room t (length s.places)) (x.rooms t (length s.places) ∙ passes-outside (is_roomy t) s.places (length s.places) (omega arith)) ∙ sym (roomy_is t p (omega arith) (omega arith));
  }) refl (omega arith) is
    where
      p : PoolEntry
      p = record { text = t0; count = 1 }

  module _ (i : ℕ) (inside : i < length s.places) where
    abbrev q : PoolEntry
    q = get_or s.places i empty_pool_entry

    free_here : s.free i ≡ is_free q
    free_here = x.frees i ∙ passes-get is_free s.places i empty_pool_entry inside

    room_here : (t : List ℕ) → s.room t i ≡ is_roomy t q
    room_here t = x.rooms t i ∙ passes-get (is_roomy t) s.places i empty_pool_entry inside

    -- a place changes its text or count, and neither set nor map has to change
    pub kept_indexed : (p : PoolEntry) → 0 < q.count → q.count < 65535 → 0 < p.count → p.count < 65535 → p.text ≡ q.text → KeepsFree s n → KeepsRoom s n → n.places ≡ slice_set s.places i p → PoolIndexMatches n
    kept_indexed p some few some-p few-p same free room is = set_is_indexed s n x i p (record {
      other_free = λ k apart. free k;
      own_free = free i ∙ free_here ∙ free_not q some ∙ sym (free_not p some-p);
      other_room = λ t k apart. room t k;
      own_room = λ t. room t i ∙ room_here t ∙ roomy_is t q some few ∙ ap (bytes_eq t) (sym same) ∙ sym (roomy_is t p some-p few-p);
    }) inside is

    -- a free place is used
    pub used_indexed : (t0 : List ℕ) → q.count ≡ 0 → SetsFree i false s n → SetsRoom t0 i true s n → n.places ≡ slice_set s.places i (record { text = t0; count = 1 }) → PoolIndexMatches n
    used_indexed t0 none free room is = set_is_indexed s n x i p (record {
      other_free = λ k apart. free k ∙ set_apart k i false (s.free k) apart;
      own_free = free i ∙ set_there i false (s.free i);
      other_room = λ t k apart. room t k ∙ room_apart (bytes_eq t t0) k i true (s.room t k) apart;
      own_room = λ t. room t i ∙ room_there (bytes_eq t t0) i true (s.room t i) ∙ gained (bytes_eq t t0) (s.room t i) (room_here t ∙ roomy_free t q none) ∙ sym (roomy_is t p (omega arith) (omega arith));
    }) inside is
      where
        p : PoolEntry
        p = record { text = t0; count = 1 }

    -- a place takes the last use that it has room for
    pub filled_indexed : (p : PoolEntry) → q.count ≡ 65534 → 65535 ≤ p.count → KeepsFree s n → SetsRoom q.text i false s n → n.places ≡ slice_set s.places i p → PoolIndexMatches n
    filled_indexed p almost full free room is = set_is_indexed s n x i p (record {
      other_free = λ k apart. free k;
      own_free = free i ∙ free_here ∙ free_not q (omega arith) ∙ sym (free_not p (omega arith));
      other_room = λ t k apart. room t k ∙ room_apart (bytes_eq t q.text) k i false (s.room t k) apart;
      own_room = λ t. room t i ∙ room_there (bytes_eq t q.text) i false (s.room t i) ∙ lost (bytes_eq t q.text) (s.room t i) (room_here t ∙ roomy_is t q (omega arith) (omega arith)) ∙ sym (roomy_full t p full);
    }) inside is

    -- a full place gives a use back
    pub opened_indexed : q.count ≡ 65535 → KeepsFree s n → SetsRoom q.text i true s n → n.places ≡ slice_set s.places i (released_entry q) → PoolIndexMatches n
    opened_indexed full free room is = set_is_indexed s n x i p (record {
      other_free = λ k apart. free k;
      own_free = free i ∙ free_here ∙ free_not q (omega arith) ∙ sym (free_not p (omega arith));
      other_room = λ t k apart. room t k ∙ room_apart (bytes_eq t q.text) k i true (s.room t k) apart;
      own_room = λ t. room t i ∙ room_there (bytes_eq t q.text) i true (s.room t i) ∙ gained (bytes_eq t q.text) (s.room t i) (room_here t ∙ roomy_full t q (omega arith)) ∙ sym (roomy_is t p (omega arith) (omega arith));
    }) inside (is ∙ ap (slice_set s.places i) (more_less q (omega arith)))
      where
        p : PoolEntry
        p = record q { count = q.count - 1 }

    -- the only use is taken back
    pub freed_indexed : q.count ≡ 1 → SetsFree i true s n → SetsRoom q.text i false s n → n.places ≡ slice_set s.places i (released_entry q) → PoolIndexMatches n
    freed_indexed one free room is = set_is_indexed s n x i empty_pool_entry (record {
      other_free = λ k apart. free k ∙ set_apart k i true (s.free k) apart;
      own_free = free i ∙ set_there i true (s.free i);
      other_room = λ t k apart. room t k ∙ room_apart (bytes_eq t q.text) k i false (s.room t k) apart;
      own_room = λ t. room t i ∙ room_there (bytes_eq t q.text) i false (s.room t i) ∙ lost (bytes_eq t q.text) (s.room t i) (room_here t ∙ roomy_is t q (omega arith) (omega arith));
    }) inside (is ∙ ap (slice_set s.places i) (last_less q one))

    -- one of several uses is taken back
    pub less_indexed : 1 < q.count → q.count < 65535 → KeepsFree s n → KeepsRoom s n → n.places ≡ slice_set s.places i (released_entry q) → PoolIndexMatches n
    less_indexed more few free room is = kept_indexed (record q { count = q.count - 1 }) (omega arith) few (omega arith) (omega arith) refl free room (is ∙ ap (slice_set s.places i) (more_less q more))

-- ---- calls in a row

-- the same parts, as a call left them
pub indexed_same : (s m : PoolIndexParts) → PoolIndexMatches s → KeepsAll s m → PoolIndexMatches m
indexed_same s m x same = record {
  few = few_so;
  frees = λ i. same.1 i ∙ x.frees i ∙ ap (λ z. passes_at is_free z i) (sym same.0);
  rooms = λ t i. same.2 t i ∙ x.rooms t i ∙ ap (λ z. passes_at (is_roomy t) z i) (sym same.0);
}
  where
    few_so : length m.places < 2 ^ 32
    few_so = rw same.0 x.few

-- a place behind the last, where there was memory for it
pub pushed_or_same : {X Y : Type 0} (s n : PoolIndexParts) → PoolIndexMatches s → (t0 : List ℕ) → length s.places < 2 ^ 24 → (r : Result X Y) → OnOk r (n.places ≡ s.places ++ record { text = t0; count = 1 } ∷ []) → OnOk r (SetsRoom t0 (length s.places) true s n)
    → OnErr r (n.places ≡ s.places) → OnErr r (KeepsRoom s n) → KeepsFree s n → PoolIndexMatches n
pushed_or_same s n x t0 few (Ok v) is room err same free = pushed_indexed s n x t0 free room few is
pushed_or_same s n x t0 few (Err e) is room err same free = indexed_same s n x (err, free, same)

-- a place that takes the next use of a text and is free is the least free one
pub least_is_free : (t : List ℕ) (s : PoolIndexParts) → PoolIndexMatches s → (i : ℕ) → i + 1 ≡ place_among t s.places → i < length s.places → (get_or s.places i empty_pool_entry).count ≡ 0 → IsLeast s.free (Some i)
least_is_free t s x i at inside none = record {
  some = x.frees i ∙ passes-get is_free s.places i empty_pool_entry inside ∙ free_is (get_or s.places i empty_pool_entry) none;
  none_below = λ k l. x.frees k ∙ none_before t s.places i at k l;
  none = tt;
}

pub free_used_so : (s a b n : PoolIndexParts) → PoolIndexMatches s → (i : ℕ) → i < length s.places → (get_or s.places i empty_pool_entry).count ≡ 0 → (t0 t1 : List ℕ) → t1 ≡ t0
    → a.places ≡ s.places → KeepsFree s a → SetsRoom t1 i true s a
    → b.places ≡ a.places → SetsFree i false a b → KeepsRoom a b
    → n.places ≡ slice_set b.places i (record { text = t0; count = 1 }) → KeepsFree b n → KeepsRoom b n → PoolIndexMatches n
free_used_so s a b n x i inside none t0 t1 same pa fa ra pb fb rb pn fn rn =
    used_indexed s n x i inside t0 none (λ k. fn k ∙ fb k ∙ ap (cond (k == i) false) (fa k))
    (λ t k. rn t k ∙ rb t k ∙ ra t k ∙ ap (λ z. cond (bytes_eq t z && (k == i)) true (s.room t k)) same)
    (pn ∙ ap (λ z. slice_set z i (record { text = t0; count = 1 })) (pb ∙ pa))

pub filled_so : (s a n : PoolIndexParts) → PoolIndexMatches s → (i : ℕ) → i < length s.places → (t0 : List ℕ) (c : ℕ) → get_or s.places i empty_pool_entry ≡ record { text = t0; count = c } → c ≡ 65534
    → a.places ≡ s.places → KeepsFree s a → SetsRoom (get_or s.places i empty_pool_entry).text i false s a
    → n.places ≡ slice_set a.places i (record { text = t0; count = 65535 }) → KeepsFree a n → KeepsRoom a n → PoolIndexMatches n
filled_so s a n x i inside t0 c is almost pa fa ra pn fn rn =
    let held = ap (λ (p : PoolEntry). p.count) is in
    filled_indexed s n x i inside (record { text = t0; count = 65535 }) (held ∙ almost) (omega arith) (λ k. fn k ∙ fa k) (λ t k. rn t k ∙ ra t k) (pn ∙ ap (λ z. slice_set z i (record { text = t0; count = 65535 })) pa)

pub again_so : (s n : PoolIndexParts) → PoolIndexMatches s → (i : ℕ) → i < length s.places → (t0 : List ℕ) (c : ℕ) → get_or s.places i empty_pool_entry ≡ record { text = t0; count = c } → 0 < c → c < 65534
    → n.places ≡ slice_set s.places i (record { text = t0; count = c + 1 }) → KeepsFree s n → KeepsRoom s n → PoolIndexMatches n
again_so s n x i inside t0 c is some few pn fn rn =
    let held : (get_or s.places i empty_pool_entry).count ≡ c = ap (λ (p : PoolEntry). p.count) is in
    kept_indexed s n x i inside (record { text = t0; count = c + 1 }) (omega (arith, held)) (omega (arith, held)) (omega arith) (omega arith) (sym (ap (λ (p : PoolEntry). p.text) is)) fn rn pn

pub freed_so : (s a b n : PoolIndexParts) → PoolIndexMatches s → (i : ℕ) → (get_or s.places i empty_pool_entry).count ≡ 1
    → a.places ≡ s.places → SetsFree i true s a → KeepsRoom s a
    → b.places ≡ a.places → KeepsFree a b → SetsRoom (get_or a.places i empty_pool_entry).text i false a b
    → n.places ≡ slice_set b.places i (released_entry (get_or b.places i empty_pool_entry)) → KeepsFree b n → KeepsRoom b n → PoolIndexMatches n
freed_so s a b n x i one pa fa ra pb fb rb pn fn rn =
    freed_indexed s n x i (used_inside s.places i (omega (arith, one))) one (λ k. fn k ∙ fb k ∙ fa k)
    (λ t k. rn t k ∙ rb t k ∙ ap (λ z. cond (bytes_eq t (get_or z i empty_pool_entry).text && (k == i)) false (a.room t k)) pa ∙ ap (cond (bytes_eq t (get_or s.places i empty_pool_entry).text && (k == i)) false) (ra t k))
    (pn ∙ ap (λ z. slice_set z i (released_entry (get_or z i empty_pool_entry))) (pb ∙ pa))

pub opened_so : (s a n : PoolIndexParts) → PoolIndexMatches s → (i : ℕ) → (get_or s.places i empty_pool_entry).count ≡ 65535
    → a.places ≡ s.places → KeepsFree s a → SetsRoom (get_or s.places i empty_pool_entry).text i true s a
    → n.places ≡ slice_set a.places i (released_entry (get_or a.places i empty_pool_entry)) → KeepsFree a n → KeepsRoom a n → PoolIndexMatches n
opened_so s a n x i full pa fa ra pn fn rn =
    opened_indexed s n x i (used_inside s.places i (omega (arith, full))) full (λ k. fn k ∙ fa k) (λ t k. rn t k ∙ ra t k)
    (pn ∙ ap (λ z. slice_set z i (released_entry (get_or z i empty_pool_entry))) pa)

pub less_so : (s a n : PoolIndexParts) → PoolIndexMatches s → (i : ℕ) → 1 < (get_or s.places i empty_pool_entry).count → (get_or s.places i empty_pool_entry).count < 65535
    → (a.places ≡ s.places) × KeepsFree s a × KeepsRoom s a
    → n.places ≡ slice_set a.places i (released_entry (get_or a.places i empty_pool_entry)) → KeepsFree a n → KeepsRoom a n → PoolIndexMatches n
less_so s a n x i more few same pn fn rn =
    less_indexed s n x i (used_inside s.places i (omega (arith, more))) more few (λ k. fn k ∙ same.1 k) (λ t k. rn t k ∙ same.2 t k)
    (pn ∙ ap (λ z. slice_set z i (released_entry (get_or z i empty_pool_entry))) same.0)

-- ---- a place behind the last of a list that was read

module _ (s n : PoolIndexParts) (x : PoolIndexMatches s) (p : PoolEntry) (few : length s.places + 1 < 2 ^ 32) (is : n.places ≡ s.places ++ p ∷ []) where
  abbrev end : ℕ
  end = length s.places

  no_free : s.free end ≡ false
  no_free = x.frees end ∙ passes-outside is_free s.places end (omega arith)

  no_room : (t : List ℕ) → s.room t end ≡ false
  no_room t = x.rooms t end ∙ passes-outside (is_roomy t) s.places end (omega arith)

  pub read_free : p.count ≡ 0 → SetsFree end true s n → KeepsRoom s n → PoolIndexMatches n
  read_free none free room = push_is_indexed s n x end p (record {
    other_free = λ k apart. free k ∙ set_apart k end true (s.free k) apart;
    own_free = free end ∙ set_there end true (s.free end) ∙ sym (free_is p none);
    other_room = λ t k apart. room t k;
    own_room = λ t. room t end ∙ no_room t ∙ sym (roomy_free t p none);
  }) refl few is

  pub read_used : 0 < p.count → p.count < 65535 → KeepsFree s n → SetsRoom p.text end true s n → PoolIndexMatches n
  read_used some small free room = push_is_indexed s n x end p (record {
    other_free = λ k apart. free k;
    own_free = free end ∙ no_free ∙ sym (free_not p some);
    other_room = λ t k apart. room t k ∙ room_apart (bytes_eq t p.text) k end true (s.room t k) apart;
    own_room = λ t. room t end ∙ room_there (bytes_eq t p.text) end true (s.room t end) ∙ gained (bytes_eq t p.text) (s.room t end) (no_room t) ∙ sym (roomy_is t p some small);
  }) refl few is

  pub read_full : 65535 ≤ p.count → KeepsFree s n → KeepsRoom s n → PoolIndexMatches n
  read_full full free room = push_is_indexed s n x end p (record {
    other_free = λ k apart. free k;
    own_free = free end ∙ no_free ∙ sym (free_not p (omega arith));
    other_room = λ t k apart. room t k;
    own_room = λ t. room t end ∙ no_room t ∙ sym (roomy_full t p full);
  }) refl few is
