-- What stands at the places of a draft.
use Rattle.std.proofs.Common.{◌≡◌, ◌≢◌, ℕ, zero, suc, ◌+◌, ◌-◌, ◌<◌, ◌≤◌, Bool, true, false, cond, List, [], ◌∷◌, ◌++◌, length, Option, Some, None, get_or, refl, ap, ap₂, sym, ◌∙◌, subst, arith, rules}
use Rattle.std.specs.Prelude.{slice_set, nat_lt, ◌==◌, ◌&&◌, not, unwrap_or, option_map, is_some, IsSome, IfSome, IfNone, String}
use Rattle.std.specs.Borrow.{Bor}
use Rattle.std.specs.Map.{lookup}
use Rattle.std.specs.BTreeMap.{UpdatesBy, get, is_at}
use Rattle.std.specs.Ordering.{nat_cmp}
use Rattle.std.specs.declared.collections.BTreeMap.{BTreeMap}
use Rattle.std.specs.declared.alloc.Global.{Global}
use Rattle.std.proofs.lemmas.Bool.Decides.{nat_tests}
use Rattle.std.proofs.lemmas.List.{map-set, length-map, length-append, get_or-map, get_or_append_left, get_or-append_right, set-append_left, set-append_right}
use Rattle.msi_pool_index.specs.Places.{PoolEntry, empty_pool_entry, released_entry, place_of, places_of}
use Rattle.msi_pool_index.specs.PoolDraft.{below, laid, place_in, takes_place}
use Rattle.msi_pool_index.specs.PoolIndex.{is_free, passes_at}
use Rattle.msi_pool_index.proofs.PoolIndexed.{passes-get, passes-outside}
use Rattle.msi_pool_index.proofs.PoolRooms.{at_same}

pub length-laid : (f : ℕ → Option PoolEntry) (ps : List PoolEntry) → length (laid f ps) ≡ length ps
length-laid f [] = refl
length-laid f (p ∷ ps) = ap suc (length-laid (λ i. f (suc i)) ps)

pub get_or-laid : (f : ℕ → Option PoolEntry) (ps : List PoolEntry) (i : ℕ) (d : PoolEntry) → i < length ps → get_or (laid f ps) i d ≡ unwrap_or (f i) (get_or ps i d)
get_or-laid f [] i d l = absurd (omega arith)
get_or-laid f (p ∷ ps) zero d l = refl
get_or-laid f (p ∷ ps) (suc i) d l = get_or-laid (λ k. f (suc k)) ps i d (omega arith)

pub laid-same : (f g : ℕ → Option PoolEntry) (ps : List PoolEntry) → ((i : ℕ) → i < length ps → unwrap_or (f i) (get_or ps i empty_pool_entry) ≡ unwrap_or (g i) (get_or ps i empty_pool_entry)) → laid f ps ≡ laid g ps
laid-same f g [] h = refl
laid-same f g (p ∷ ps) h = ap₂ (λ x xs. x ∷ xs) (h 0 (omega arith)) (laid-same (λ i. f (suc i)) (λ i. g (suc i)) ps (λ i l. h (suc i) (omega arith)))

pub laid-set : (f g : ℕ → Option PoolEntry) (ps : List PoolEntry) (i : ℕ) (p : PoolEntry) → i < length ps → g i ≡ Some p → ((k : ℕ) → k ≢ i → g k ≡ f k) → laid g ps ≡ slice_set (laid f ps) i p
laid-set f g [] i p l here other = absurd (omega arith)
laid-set f g (q ∷ ps) zero p l here other = ap₂ (λ x xs. x ∷ xs) (ap (λ o. unwrap_or o q) here) (laid-same (λ i. g (suc i)) (λ i. f (suc i)) ps (λ i l. ap (λ o. unwrap_or o (get_or ps i empty_pool_entry)) (other (suc i) (λ e. absurd (omega (arith, e))))))
laid-set f g (q ∷ ps) (suc i) p l here other = ap₂ (λ x xs. x ∷ xs) (ap (λ o. unwrap_or o q) (other 0 (λ e. absurd (omega (arith, e))))) (laid-set (λ k. f (suc k)) (λ k. g (suc k)) ps i p (omega arith) here (λ k h. other (suc k) (λ e. h (omega (arith, e)))))

-- a place that is written to the list instead
pub laid_moved : (f g : ℕ → Option PoolEntry) (ps : List PoolEntry) (i : ℕ) (p : PoolEntry) → f i ≡ Some p → g i ≡ None → ((k : ℕ) → k ≢ i → g k ≡ f k) → laid g (slice_set ps i p) ≡ laid f ps
laid_moved f g [] i p is none other = refl
laid_moved f g (q ∷ ps) zero p is none other = ap₂ (λ x xs. x ∷ xs) (ap (λ o. unwrap_or o p) none ∙ sym (ap (λ o. unwrap_or o q) is)) (laid-same (λ i. g (suc i)) (λ i. f (suc i)) ps (λ i l. ap (λ o. unwrap_or o (get_or ps i empty_pool_entry)) (other (suc i) (λ e. absurd (omega (arith, e))))))
laid_moved f g (q ∷ ps) (suc i) p is none other = ap₂ (λ x xs. x ∷ xs) (ap (λ o. unwrap_or o q) (other 0 (λ e. absurd (omega (arith, e))))) (laid_moved (λ k. f (suc k)) (λ k. g (suc k)) ps i p is none (λ k h. other (suc k) (λ e. h (omega (arith, e)))))

pub laid-none : (f : ℕ → Option PoolEntry) (ps : List PoolEntry) → ((i : ℕ) → f i ≡ None) → laid f ps ≡ ps
laid-none f [] h = refl
laid-none f (p ∷ ps) h = ap₂ (λ x xs. x ∷ xs) (ap (λ o. unwrap_or o p) (h 0)) (laid-none (λ i. f (suc i)) ps (λ i. h (suc i)))

abbrev Entry : Type 0
Entry = String Global × ℕ

pub listed : (list : List Entry) (ps : List PoolEntry) → places_of list ≡ ps → length list ≡ length ps
listed list ps e = sym (length-map list place_of) ∙ ap length e

-- a place that is held as it stands in the list
pub laid_held : (f g : ℕ → Option PoolEntry) (list : List Entry) (ps : List PoolEntry) (i : ℕ) (x : Entry) → places_of list ≡ ps → i < length list → f i ≡ None → x ≡ get_or list i x → ((k : ℕ) → g k ≡ cond (k == i) (Some (place_of x)) (f k)) → laid g ps ≡ laid f ps
laid_held f g list ps i x e l none is h = laid-same g f ps (λ k inside. go k (k == i) refl)
  where
    stands : get_or ps i empty_pool_entry ≡ place_of x
    stands = ap (λ z. get_or z i empty_pool_entry) (sym e) ∙ get_or-map place_of list i x empty_pool_entry l ∙ ap place_of (sym is)

    go : (k : ℕ) (b : Bool) → (k == i) ≡ b → unwrap_or (g k) (get_or ps k empty_pool_entry) ≡ unwrap_or (f k) (get_or ps k empty_pool_entry)
    go k true t =
        let same : k ≡ i = grind (arith, nat_tests, t) in
        ap (λ o. unwrap_or o (get_or ps k empty_pool_entry)) (h k ∙ ap (λ b. cond b (Some (place_of x)) (f k)) t)
        ∙ sym (ap (λ o. unwrap_or o (get_or ps k empty_pool_entry)) (ap f same ∙ none) ∙ ap (λ z. get_or ps z empty_pool_entry) same ∙ stands)
    go k false t = ap (λ o. unwrap_or o (get_or ps k empty_pool_entry)) (h k ∙ ap (λ b. cond b (Some (place_of x)) (f k)) t)

-- what a map has at the places once one was put there
pub place_after : (m n : BTreeMap ℕ Entry Global) (k : ℕ) (x : Entry) → UpdatesBy nat_cmp (nat_cmp k) m n (Some x) → (i : ℕ) → place_in n i ≡ cond (i == k) (Some (place_of x)) (place_in m i)
place_after m n k x u i = ap (option_map place_of) (u.0 i ∙ ap (λ b. cond b (Some x) (get nat_cmp m i)) (at_same k i)) ∙ go (i == k)
  where
    go : (b : Bool) → option_map place_of (cond b (Some x) (get nat_cmp m i)) ≡ cond b (Some (place_of x)) (place_in m i)
    go true = refl
    go false = refl

module _ (f : ℕ → Option PoolEntry) (ps : List PoolEntry) (items : List Entry) where
  abbrev all : List PoolEntry
  all = laid f ps ++ places_of items

  pub draft_length : length all ≡ length ps + length items
  draft_length = length-append (laid f ps) (places_of items) ∙ ap₂ (λ a b. a + b) (length-laid f ps) (length-map items place_of)

  pub added_inside : (i n : ℕ) → n ≡ length ps → n ≤ i → i < length all → i - n < length items
  added_inside i n e le l = omega (arith, e, le, l, draft_length)

  pub at_list : (i : ℕ) → i < length ps → get_or all i empty_pool_entry ≡ unwrap_or (f i) (get_or ps i empty_pool_entry)
  at_list i l = get_or_append_left (laid f ps) (places_of items) empty_pool_entry i (rw (length-laid f ps) l) ∙ get_or-laid f ps i empty_pool_entry l

  pub at_added : (i n : ℕ) (d : Entry) → n ≡ length ps → n ≤ i → i < length all → get_or all i empty_pool_entry ≡ place_of (get_or items (i - n) d)
  at_added i n d e le l = get_or-append_right (laid f ps) (places_of items) n i empty_pool_entry (length-laid f ps ∙ sym e) le ∙ get_or-map place_of items (i - n) d empty_pool_entry (added_inside i n e le l)

  -- what a look-up in the added ones tells
  pub some_added : (i n : ℕ) (r : Option (Bor Entry)) → n ≡ length ps → n ≤ i → is_some r ≡ nat_lt (i - n) (length items) → IfSome r (λ x. x.now ≡ get_or items (i - n) x.now) → IfSome r (λ x. place_of x.now ≡ get_or all i empty_pool_entry)
  some_added i n None e le some is = tt
  some_added i n (Some x) e le some is =
      let inside : i - n < length items = grind (arith, nat_tests, some) in
      ap place_of is ∙ sym (at_added i n x.now e le (omega (arith, inside, e, le, draft_length)))

  pub none_added : (i n : ℕ) (r : Option (Bor Entry)) → n ≡ length ps → n ≤ i → is_some r ≡ nat_lt (i - n) (length items) → IfNone r (length all ≤ i)
  none_added i n (Some x) e le some = tt
  none_added i n None e le some = let outside : length items ≤ i - n = grind (arith, nat_tests, some) in omega (arith, outside, e, le, draft_length)

  -- and what one in the list does
  pub some_listed : (i : ℕ) (list : List Entry) (r : Option (Bor Entry)) → places_of list ≡ ps → i < length list → f i ≡ None → IfSome r (λ x. x.now ≡ get_or list i x.now) → IfSome r (λ x. place_of x.now ≡ get_or all i empty_pool_entry)
  some_listed i list None e l none is = tt
  some_listed i list (Some x) e l none is =
      let inside : i < length ps = omega (arith, l, listed list ps e) in
      ap place_of is ∙ sym (at_list i inside ∙ ap (λ o. unwrap_or o (get_or ps i empty_pool_entry)) none ∙ ap (λ z. get_or z i empty_pool_entry) (sym e) ∙ get_or-map place_of list i x.now empty_pool_entry l)

  pub list_written : (g : ℕ → Option PoolEntry) (i : ℕ) (p : PoolEntry) → i < length ps → ((k : ℕ) → g k ≡ cond (k == i) (Some p) (f k)) → laid g ps ++ places_of items ≡ slice_set all i p
  list_written g i p l h =
      ap (λ z. z ++ places_of items) (laid-set f g ps i p l
      (h i ∙ (let e : (i == i) ≡ true = grind (arith, nat_tests) in ap (λ b. cond b (Some p) (f i)) e))
      (λ k apart. h k ∙ (let e : (k == i) ≡ false = grind (arith, nat_tests) in ap (λ b. cond b (Some p) (f k)) e)))
      ∙ sym (set-append_left (laid f ps) (places_of items) i p (rw (length-laid f ps) l))

  pub added_written : (i n : ℕ) (x : Entry) → n ≡ length ps → n ≤ i → laid f ps ++ places_of (slice_set items (i - n) x) ≡ slice_set all i (place_of x)
  added_written i n x e le = ap (λ z. laid f ps ++ z) (map-set place_of items (i - n) x) ∙ sym (set-append_right (laid f ps) (places_of items) n i (place_of x) (length-laid f ps ∙ sym e) le)

  pub list_used : (i : ℕ) → i < length ps → 0 < (get_or all i empty_pool_entry).count → IfSome (f i) (λ p. 0 < p.count)
  list_used i l used = go (f i) refl
    where
      go : (o : Option PoolEntry) → f i ≡ o → IfSome o (λ p. 0 < p.count)
      go None e = tt
      go (Some p) e = let is : get_or all i empty_pool_entry ≡ p = at_list i l ∙ ap (λ o. unwrap_or o (get_or ps i empty_pool_entry)) e in subst (λ (z : PoolEntry). 0 < z.count) is used

  pub list_taken : (g : ℕ → Option PoolEntry) (i : ℕ) → i < length ps → IsSome (f i) → ((k : ℕ) → g k ≡ cond (k == i) (option_map released_entry (f i)) (f k)) → laid g ps ++ places_of items ≡ slice_set all i (released_entry (get_or all i empty_pool_entry))
  list_taken g i l some h = go (f i) refl some h
    where
      go : (o : Option PoolEntry) → f i ≡ o → IsSome o → ((k : ℕ) → g k ≡ cond (k == i) (option_map released_entry o) (f k)) → laid g ps ++ places_of items ≡ slice_set all i (released_entry (get_or all i empty_pool_entry))
      go None e some h = absurd (search rules)
      go (Some p) e some h = list_written g i (released_entry p) l h ∙ ap (λ z. slice_set all i (released_entry z)) (sym (at_list i l ∙ ap (λ o. unwrap_or o (get_or ps i empty_pool_entry)) e))

-- what a map has at the places once one was taken out
pub place_gone : (m n : BTreeMap ℕ Entry Global) (k : ℕ) → UpdatesBy nat_cmp (nat_cmp k) m n None → (i : ℕ) → place_in n i ≡ cond (i == k) None (place_in m i)
place_gone m n k u i = ap (option_map place_of) (u.0 i ∙ ap (λ b. cond b None (get nat_cmp m i)) (at_same k i)) ∙ go (i == k)
  where
    go : (b : Bool) → option_map place_of (cond b None (get nat_cmp m i)) ≡ cond b None (place_in m i)
    go true = refl
    go false = refl

module _ (m n : BTreeMap ℕ Entry Global) (k : ℕ) (x : Entry) (is : get nat_cmp m k ≡ Some x) (u : UpdatesBy nat_cmp (nat_cmp k) m n None) (end : ℕ) where
  gone : below end (place_in n) k ≡ None
  gone = ap (λ o. cond (nat_lt k end) o None) (place_gone m n k u k ∙ (let e : (k == k) ≡ true = grind (arith, nat_tests) in ap (λ b. cond b None (place_in m k)) e)) ∙ go (nat_lt k end)
    where
      go : (b : Bool) → cond {A = Option PoolEntry} b None None ≡ None
      go true = refl
      go false = refl

  stays : (i : ℕ) → i ≢ k → below end (place_in n) i ≡ below end (place_in m) i
  stays i apart = ap (λ o. cond (nat_lt i end) o None) (place_gone m n k u i ∙ (let e : (i == k) ≡ false = grind (arith, nat_tests) in ap (λ b. cond b None (place_in m i)) e))

  -- the list once the place is written, with what is left to write
  pub list_moved : k < end → (items : List Entry) → laid (below end (place_in n)) (places_of (slice_set items k x)) ≡ laid (below end (place_in m)) (places_of items)
  list_moved l items = ap (laid (below end (place_in n))) (map-set place_of items k x) ∙ laid_moved (below end (place_in m)) (below end (place_in n)) (places_of items) k (place_of x)
      (ap (λ o. cond (nat_lt k end) (option_map place_of o) None) is ∙ (let e : nat_lt k end ≡ true = grind (arith, nat_tests) in ap (λ b. cond b (Some (place_of x)) None) e)) gone stays

  -- where it lies behind them
  pub past_none : end ≤ k → (i : ℕ) → below end (place_in n) i ≡ below end (place_in m) i
  past_none l i = go (i == k) refl
    where
      go : (b : Bool) → (i == k) ≡ b → below end (place_in n) i ≡ below end (place_in m) i
      go true e = let past : nat_lt i end ≡ false = grind (arith, nat_tests, e) in ap (λ b. cond b (place_in n i) None) past ∙ sym (ap (λ b. cond b (place_in m i) None) past)
      go false e = stays i (grind (arith, nat_tests, e))

  pub list_passed : end ≤ k → (places : List PoolEntry) → laid (below end (place_in n)) places ≡ laid (below end (place_in m)) places
  list_passed l places = laid-same (below end (place_in n)) (below end (place_in m)) places (λ i _. ap (λ o. unwrap_or o (get_or places i empty_pool_entry)) (past_none l i))

  -- and its free ones
  pub free_moved : k < end → (old new : ℕ → Bool) → ((i : ℕ) → new i ≡ cond ((i == k) && not (x.1 == 0)) false (old i)) → (i : ℕ) → (new i && not (takes_place (below end (place_in n) i))) ≡ (old i && not (takes_place (below end (place_in m) i)))
  free_moved l old new h i = go (i == k) refl
    where
      left : (a b : Bool) → (cond (not a) false b && true) ≡ (b && not (not a))
      left true b = refl
      left false true = refl
      left false false = refl

      go : (b : Bool) → (i == k) ≡ b → (new i && not (takes_place (below end (place_in n) i))) ≡ (old i && not (takes_place (below end (place_in m) i)))
      go true e =
          let same : i ≡ k = grind (arith, nat_tests, e) in
          let inside : nat_lt i end ≡ true = grind (arith, nat_tests) in
          ap₂ (λ a o. a && not (takes_place o)) (h i ∙ ap (λ b. cond (b && not (x.1 == 0)) false (old i)) e) (ap (below end (place_in n)) same ∙ gone)
          ∙ left (x.1 == 0) (old i)
          ∙ ap (λ o. old i && not (takes_place o)) (sym (ap (λ b. cond b (place_in m i) None) inside ∙ ap (place_in m) same ∙ ap (option_map place_of) is))
      go false e = ap₂ (λ a o. a && not (takes_place o)) (h i ∙ ap (λ b. cond (b && not (x.1 == 0)) false (old i)) e) (stays i (grind (arith, nat_tests, e)))

-- an empty map changes nothing
pub none_in : (m : BTreeMap ℕ Entry Global) → m.entries ≡ [] → (i : ℕ) → place_in m i ≡ None
none_in m none i = ap (λ es. option_map place_of (lookup (is_at (nat_cmp i)) es)) none

pub none_below : (m : BTreeMap ℕ Entry Global) (end : ℕ) → m.entries ≡ [] → (i : ℕ) → below end (place_in m) i ≡ None
none_below m end none i = ap (λ o. cond (nat_lt i end) o None) (none_in m none i) ∙ go (nat_lt i end)
  where
    go : (b : Bool) → cond {A = Option PoolEntry} b None None ≡ None
    go true = refl
    go false = refl

-- what lies behind the list stays
pub laid-append : (f g : ℕ → Option PoolEntry) (ps qs : List PoolEntry) → ((i : ℕ) → i < length ps → g i ≡ f i) → ((i : ℕ) → length ps ≤ i → g i ≡ None) → laid g (ps ++ qs) ≡ laid f ps ++ qs
laid-append f g [] qs same none = laid-none g qs (λ i. none i (omega arith))
laid-append f g (p ∷ ps) qs same none = ap₂ (λ x xs. x ∷ xs) (ap (λ o. unwrap_or o p) (same 0 (omega arith))) (laid-append (λ i. f (suc i)) (λ i. g (suc i)) ps qs (λ i l. same (suc i) (omega arith)) (λ i l. none (suc i) (omega arith)))

-- whether a place of a list is free
pub free_is_told : (list : List Entry) (i : ℕ) (x : Entry) → i < length list → x ≡ get_or list i x → is_free (place_of x) ≡ passes_at is_free (places_of list) i
free_is_told list i x l is = sym (passes-get is_free (places_of list) i empty_pool_entry (rw (length-map list place_of) l) ∙ ap is_free (get_or-map place_of list i x empty_pool_entry l ∙ ap place_of (sym is)))

pub none_free : (list : List Entry) (i : ℕ) → length list ≤ i → false ≡ passes_at is_free (places_of list) i
none_free list i l = sym (passes-outside is_free (places_of list) i (rw (length-map list place_of) l))
