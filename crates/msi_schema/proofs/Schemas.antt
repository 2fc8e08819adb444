-- Rows that describe tables go on doing so in another order, and with the rows of a new table.
use Rattle.std.proofs.Common.{◌≡◌, ◌∙◌, ℕ, Bool, true, false, cond, List, [], ◌∷◌, ◌++◌, map, take, refl, sym, ap, ap₂, not}
use Rattle.std.specs.Prelude.{◌&&◌, ◌||◌, bytes_eq, filter, is_some, IsPermutation}
use Rattle.std.specs.List.{AllByRecursion, IsDistinct, list_all, list_any}
use Rattle.std.specs.Ordering.{is_eq}
use Rattle.std.proofs.lemmas.Bool.{and_parts}
use Rattle.std.proofs.lemmas.Cmp.{nat_list_eq_equiv}
use Rattle.std.proofs.lemmas.List.{map-append}
use Rattle.std.proofs.lemmas.List.Folds.{list_all-append, list_any-append}
use Rattle.std.proofs.lemmas.List.Sorted.{All-permutation, IsPermutation-map, list_any-IsPermutation}
use Rattle.std.proofs.lemmas.List.Sums.{AllPass-from_list_all, list_all-from_AllPass}
use Rattle.std.proofs.lemmas.Map.Keys.{IsDistinct-IsPermutation}
use Rattle.std.proofs.lemmas.Slice.Eq.{bytes_eq-Decides}
use Rattle.msi_values.specs.Datum.{Datum, null, number, text, binary}
use Rattle.msi_tables.specs.Schema.{are_keys, begins_with, is_filled, is_of_listed, is_schema, names_described, schema_of}
use Rattle.msi_tables.specs.Table.{are_distinct, has_key, key_cmp}
use Rattle.msi_schema.proofs.Beside.{begins_once, schema_added, schema_moved, schema_taken}
use Rattle.msi_schema.proofs.Indexed.{one_key}
use Rattle.msi_schema.proofs.Judged.{all_hold}
use Rattle.msi_schema.proofs.Numbered.{less_then, same_text}

abbrev Rows : Type 0
Rows = List (List Datum)

-- ---- in another order

all_moved : {A : Type 0} (p : A → Bool) (xs ys : List A) → IsPermutation xs ys → list_all p xs ≡ true → list_all p ys ≡ true
all_moved p xs ys moves all = list_all-from_AllPass p ys (All-permutation (λ x. p x ≡ true) xs ys moves (AllPass-from_list_all p xs all))

all_alike : {A : Type 0} (p q : A → Bool) → ((x : A) → q x ≡ p x) → (xs : List A) → list_all q xs ≡ list_all p xs
all_alike p q alike [] = refl
all_alike p q alike (x ∷ xs) = ap₂ (λ a b. a && b) (alike x) (all_alike p q alike xs)

abbrev same_key : List Datum → List Datum → Bool
same_key x y = is_eq (key_cmp x y)

apart_from : (k : List Datum) (ks : Rows) → has_key ks k ≡ false → AllByRecursion (λ y. same_key k y ≡ false) ks
apart_from k [] e = tt
apart_from k (x ∷ xs) e = go (is_eq (key_cmp x k)) refl e (apart_from k xs)
  where
    go : (b : Bool) → is_eq (key_cmp x k) ≡ b → (b || has_key xs k) ≡ false → (has_key xs k ≡ false → AllByRecursion (λ y. same_key k y ≡ false) xs) → AllByRecursion (λ y. same_key k y ≡ false) (x ∷ xs)
    go true is e later = absurd (cc)
    go false is e later = (one_key k x ∙ is, later e)

none_from : (k : List Datum) (ks : Rows) → AllByRecursion (λ y. same_key k y ≡ false) ks → has_key ks k ≡ false
none_from k [] all = refl
none_from k (x ∷ xs) all = ap₂ (λ a b. a || b) (one_key x k ∙ all.0) (none_from k xs all.1)

not_true : (b : Bool) → not b ≡ true → b ≡ false
not_true true e = absurd (cc)
not_true false e = refl

told_distinct : (ks : Rows) → are_distinct ks ≡ true → IsDistinct same_key ks
unfolding IsDistinct
told_distinct [] e = tt
told_distinct (k ∷ ks) e = let parts = and_parts (not (has_key ks k)) (are_distinct ks) e in (apart_from k ks (not_true (has_key ks k) parts.0), told_distinct ks parts.1)

distinct_told : (ks : Rows) → IsDistinct same_key ks → are_distinct ks ≡ true
unfolding IsDistinct
distinct_told [] h = refl
distinct_told (k ∷ ks) h = ap₂ (λ a b. not a && b) (none_from k ks h.0) (distinct_told ks h.1)

distinct_moved : (xs ys : Rows) → IsPermutation xs ys → are_distinct xs ≡ true → are_distinct ys ≡ true
distinct_moved xs ys moves once = distinct_told ys (IsDistinct-IsPermutation same_key one_key xs ys moves (told_distinct xs once))

keys_moved : (xs ys : Rows) → IsPermutation xs ys → are_keys xs ≡ true → are_keys ys ≡ true
keys_moved xs ys moves keys =
    let parts = and_parts (list_all (list_all is_filled) xs) (are_distinct xs) keys in
    ap₂ (λ a b. a && b) (all_moved (list_all is_filled) xs ys moves parts.0) (distinct_moved xs ys moves parts.1)

-- the six tests
abbrev Parts : Rows → Rows → Rows → Type 0
Parts T C V = (are_keys T ≡ true) × (are_keys (map (take 2) C) ≡ true) × (list_all (list_all is_filled) C ≡ true) × (list_all (is_of_listed T) C ≡ true)
    × (are_keys (map (take 2) V) ≡ true) × (list_all (names_described C V) T ≡ true)

parts_of : (T C V : Rows) → is_schema T C V ≡ true → Parts T C V
parts_of T C V e =
    let a = are_keys T in
    let b = are_keys (map (take 2) C) in
    let c = list_all (list_all is_filled) C in
    let d = list_all (is_of_listed T) C in
    let k = are_keys (map (take 2) V) in
    let f = list_all (names_described C V) T in
    let five = and_parts (a && b && c && d && k) f e in
    let four = and_parts (a && b && c && d) k five.0 in
    let three = and_parts (a && b && c) d four.0 in
    let two = and_parts (a && b) c three.0 in
    let one = and_parts a b two.0 in
    (one.0, one.1, two.1, three.1, four.1, five.1)

pub schemas_moved : (T T' C C' V V' : Rows) → IsPermutation T T' → IsPermutation C C' → IsPermutation V V' → is_schema T C V ≡ true → is_schema T' C' V' ≡ true
schemas_moved T T' C C' V V' t c v e =
    let is = parts_of T C V e in
    let once = (and_parts (list_all (list_all is_filled) (map (take 2) C)) (are_distinct (map (take 2) C)) is.1).1 in
    let alone = (and_parts (list_all (list_all is_filled) (map (take 2) V)) (are_distinct (map (take 2) V)) is.4).1 in
    all_hold T' C' V' (keys_moved T T' t is.0) (keys_moved (map (take 2) C) (map (take 2) C') (IsPermutation-map (take 2) C C' c) is.1)
    (all_moved (list_all is_filled) C C' c is.2)
    (all_alike (is_of_listed T) (is_of_listed T') listed C' ∙ all_moved (is_of_listed T) C C' c is.3)
    (keys_moved (map (take 2) V) (map (take 2) V') (IsPermutation-map (take 2) V V' v) is.4)
    (all_alike (names_described C V) (names_described C' V') (described once alone) T' ∙ all_moved (names_described C V) T T' t is.5)
  where
    listed : (row : List Datum) → is_of_listed T' row ≡ is_of_listed T row
    listed [] = refl
    listed (null ∷ ds) = refl
    listed (number z ∷ ds) = refl
    listed (binary ∷ ds) = refl
    listed (text s ∷ ds) = sym (list_any-IsPermutation (begins_with s) T T' t)

    described : are_distinct (map (take 2) C) ≡ true → are_distinct (map (take 2) V) ≡ true → (row : List Datum) → names_described C' V' row ≡ names_described C V row
    described once alone [] = refl
    described once alone (null ∷ ds) = refl
    described once alone (number z ∷ ds) = refl
    described once alone (binary ∷ ds) = refl
    described once alone (text s ∷ ds) = ap is_some (schema_moved C C' V V' c v once alone s)

-- ---- with a new table

distinct_joined : (xs ys : Rows) → are_distinct xs ≡ true → are_distinct ys ≡ true → list_all (λ x. not (has_key ys x)) xs ≡ true → are_distinct (xs ++ ys) ≡ true
distinct_joined [] ys once also apart = also
distinct_joined (x ∷ xs) ys once also apart =
    let parts = and_parts (not (has_key xs x)) (are_distinct xs) once in
    let others = and_parts (not (has_key ys x)) (list_all (λ x. not (has_key ys x)) xs) apart in
    ap₂ (λ a b. not a && b) (list_any-append (same_with x) xs ys ∙ ap₂ (λ a b. a || b) (not_true (has_key xs x) parts.0) (not_true (has_key ys x) others.0))
    (distinct_joined xs ys parts.1 also others.1)
  where
    same_with : List Datum → List Datum → Bool
    same_with k x = is_eq (key_cmp x k)

keys_joined : (xs ys : Rows) → are_keys xs ≡ true → are_keys ys ≡ true → list_all (λ x. not (has_key ys x)) xs ≡ true → are_keys (xs ++ ys) ≡ true
keys_joined xs ys keys also apart =
    let parts = and_parts (list_all (list_all is_filled) xs) (are_distinct xs) keys in
    let others = and_parts (list_all (list_all is_filled) ys) (are_distinct ys) also in
    ap₂ (λ a b. a && b) (list_all-append (list_all is_filled) xs ys ∙ ap₂ (λ a b. a && b) parts.0 others.0) (distinct_joined xs ys parts.1 others.1 apart)

-- rows that begin with different names have different keys
begins_apart : (table : List ℕ) (z x : List Datum) → begins_with table z ≡ true → begins_with table x ≡ false → is_eq (key_cmp z x) ≡ false
begins_apart table [] x e f = absurd (cc)
begins_apart table (null ∷ z) x e f = absurd (cc)
begins_apart table (number n ∷ z) x e f = absurd (cc)
begins_apart table (binary ∷ z) x e f = absurd (cc)
begins_apart table (text t ∷ z) [] e f = refl
begins_apart table (text t ∷ z) (null ∷ x) e f = refl
begins_apart table (text t ∷ z) (number n ∷ x) e f = refl
begins_apart table (text t ∷ z) (binary ∷ x) e f = refl
begins_apart table (text t ∷ z) (text s ∷ x) e f =
    less_then _ (key_cmp z x) ∙ ap (λ b. b && is_eq (key_cmp z x)) (same_text t s ∙ ap (λ u. bytes_eq u s) ((bytes_eq-Decides t table).0 e) ∙ flip table s ∙ f)
  where
    flip : (a b : List ℕ) → bytes_eq a b ≡ bytes_eq b a
    flip = nat_list_eq_equiv.symm

begins_short : (table : List ℕ) (x : List Datum) → begins_with table (take 2 x) ≡ begins_with table x
begins_short table [] = refl
begins_short table (d ∷ []) = refl
begins_short table (d ∷ f ∷ x) = refl

no_key : (table : List ℕ) (ys : Rows) (x : List Datum) → list_all (begins_with table) ys ≡ true → begins_with table x ≡ false → has_key ys x ≡ false
no_key table [] x all f = refl
no_key table (y ∷ ys) x all f =
    let parts = and_parts (begins_with table y) (list_all (begins_with table) ys) all in
    ap₂ (λ a b. a || b) (begins_apart table y x parts.0 f) (no_key table ys x parts.1 f)

short_begin : (table : List ℕ) (ys : Rows) → list_all (begins_with table) ys ≡ true → list_all (begins_with table) (map (take 2) ys) ≡ true
short_begin table [] all = refl
short_begin table (y ∷ ys) all =
    let parts = and_parts (begins_with table y) (list_all (begins_with table) ys) all in
    ap₂ (λ a b. a && b) (begins_short table y ∙ parts.0) (short_begin table ys parts.1)

none_begin : (table : List ℕ) (xs : Rows) → list_any (begins_with table) xs ≡ false → (ys : Rows) → list_all (begins_with table) ys ≡ true → list_all (λ x. not (has_key ys x)) xs ≡ true
none_begin table [] none ys all = refl
none_begin table (x ∷ xs) none ys all =
    let parts = or_none (begins_with table x) (list_any (begins_with table) xs) none in
    ap₂ (λ a b. not a && b) (no_key table ys x all parts.0) (none_begin table xs parts.1 ys all)
  where
    or_none : (a b : Bool) → (a || b) ≡ false → (a ≡ false) × (b ≡ false)
    or_none true b e = absurd (cc)
    or_none false b e = (refl, e)

short_none : (table : List ℕ) (xs : Rows) → list_any (begins_with table) xs ≡ false → list_any (begins_with table) (map (take 2) xs) ≡ false
short_none table [] none = refl
short_none table (x ∷ xs) none = go (begins_with table x) refl none (short_none table xs)
  where
    go : (b : Bool) → begins_with table x ≡ b → (b || list_any (begins_with table) xs) ≡ false → (list_any (begins_with table) xs ≡ false → list_any (begins_with table) (map (take 2) xs) ≡ false)
        → (begins_with table (take 2 x) || list_any (begins_with table) (map (take 2) xs)) ≡ false
    go true is e later = absurd (cc)
    go false is e later = ap₂ (λ a b. a || b) (begins_short table x ∙ is) (later e)

-- rows of listed tables speak of none that isn't listed
unlisted : (table : List ℕ) (T : Rows) → list_any (begins_with table) T ≡ false → (rows : Rows) → list_all (is_of_listed T) rows ≡ true → list_any (begins_with table) rows ≡ false
unlisted table T none [] all = refl
unlisted table T none (x ∷ xs) all =
    let parts = and_parts (is_of_listed T x) (list_all (is_of_listed T) xs) all in
    ap₂ (λ a b. a || b) (other x parts.0) (unlisted table T none xs parts.1)
  where
    other : (row : List Datum) → is_of_listed T row ≡ true → begins_with table row ≡ false
    other [] e = refl
    other (null ∷ ds) e = refl
    other (number z ∷ ds) e = refl
    other (binary ∷ ds) e = refl
    other (text s ∷ ds) e = go (bytes_eq s table) refl
      where
        go : (b : Bool) → bytes_eq s table ≡ b → b ≡ false
        go false is = refl
        go true is = let wrong : true ≡ false = sym e ∙ ap (λ t. list_any (begins_with t) T) ((bytes_eq-Decides s table).0 is) ∙ none in absurd (cc)

weaker : {A : Type 0} (p q : A → Bool) → ((x : A) → p x ≡ true → q x ≡ true) → (xs : List A) → list_all p xs ≡ true → list_all q xs ≡ true
weaker p q so [] all = refl
weaker p q so (x ∷ xs) all = let parts = and_parts (p x) (list_all p xs) all in ap₂ (λ a b. a && b) (so x parts.0) (weaker p q so xs parts.1)

module _ (T C V N W : Rows) (table : List ℕ) (e : is_schema T C V ≡ true) (new : list_any (begins_with table) T ≡ false)
    (numbers : are_keys (map (take 2) N) ≡ true) (filled : list_all (list_all is_filled) N ≡ true) (own : list_all (begins_with table) N ≡ true)
    (says : are_keys (map (take 2) W) ≡ true) (also : list_all (begins_with table) W ≡ true) (apart : list_all (λ x. not (has_key (map (take 2) W) x)) (map (take 2) V) ≡ true)
    (described : is_some (schema_of (C ++ N) (V ++ W) table) ≡ true) where
  abbrev listed : Rows
  listed = T ++ (text table ∷ []) ∷ []

  itself : bytes_eq table table ≡ true
  itself = (bytes_eq-Decides table table).1 refl

  is_new : Parts T C V
  is_new = parts_of T C V e

  name_listed : list_any (begins_with table) listed ≡ true
  name_listed = list_any-append (begins_with table) T ((text table ∷ []) ∷ []) ∙ ap₂ (λ a b. a || (b || false)) new itself

  still_listed : (row : List Datum) → is_of_listed T row ≡ true → is_of_listed listed row ≡ true
  still_listed [] h = h
  still_listed (null ∷ ds) h = h
  still_listed (number z ∷ ds) h = h
  still_listed (binary ∷ ds) h = h
  still_listed (text s ∷ ds) h = list_any-append (begins_with s) T ((text table ∷ []) ∷ []) ∙ ap (λ a. a || list_any (begins_with s) ((text table ∷ []) ∷ [])) h

  own_listed : (row : List Datum) → begins_with table row ≡ true → is_of_listed listed row ≡ true
  own_listed [] h = absurd (cc)
  own_listed (null ∷ ds) h = absurd (cc)
  own_listed (number z ∷ ds) h = absurd (cc)
  own_listed (binary ∷ ds) h = absurd (cc)
  own_listed (text s ∷ ds) h = ap (λ t. list_any (begins_with t) listed) ((bytes_eq-Decides s table).0 h) ∙ name_listed

  none_other : (s : List ℕ) → bytes_eq s table ≡ false → (rows : Rows) → list_all (begins_with table) rows ≡ true → list_any (begins_with s) rows ≡ false
  none_other s differs [] all = refl
  none_other s differs (x ∷ xs) all =
      let parts = and_parts (begins_with table x) (list_all (begins_with table) xs) all in
      ap₂ (λ a b. a || b) (not_this x parts.0) (none_other s differs xs parts.1)
    where
      not_this : (row : List Datum) → begins_with table row ≡ true → begins_with s row ≡ false
      not_this [] h = absurd (cc)
      not_this (null ∷ ds) h = absurd (cc)
      not_this (number z ∷ ds) h = absurd (cc)
      not_this (binary ∷ ds) h = absurd (cc)
      not_this (text t ∷ ds) h = ap (λ u. bytes_eq u s) ((bytes_eq-Decides t table).0 h) ∙ nat_list_eq_equiv.symm table s ∙ differs

  still_described : (rows : Rows) → list_any (begins_with table) rows ≡ false → list_all (names_described C V) rows ≡ true → list_all (names_described (C ++ N) (V ++ W)) rows ≡ true
  still_described [] none all = refl
  still_described (x ∷ xs) none all = go (begins_with table x) refl none (and_parts (names_described C V x) (list_all (names_described C V) xs) all) (still_described xs)
    where
      one : (row : List Datum) → begins_with table row ≡ false → names_described C V row ≡ true → names_described (C ++ N) (V ++ W) row ≡ true
      one [] f h = h
      one (null ∷ ds) f h = h
      one (number z ∷ ds) f h = h
      one (binary ∷ ds) f h = h
      one (text s ∷ ds) f h = ap is_some (schema_added C N V W s (none_other s f N own) (none_other s f W also)) ∙ h

      go : (b : Bool) → begins_with table x ≡ b → (b || list_any (begins_with table) xs) ≡ false → (names_described C V x ≡ true) × (list_all (names_described C V) xs ≡ true)
          → (list_any (begins_with table) xs ≡ false → list_all (names_described C V) xs ≡ true → list_all (names_described (C ++ N) (V ++ W)) xs ≡ true)
          → (names_described (C ++ N) (V ++ W) x && list_all (names_described (C ++ N) (V ++ W)) xs) ≡ true
      go true is none parts later = absurd (cc)
      go false is none parts later = ap₂ (λ a b. a && b) (one x is parts.0) (later none parts.1)

  pub schemas_grow : is_schema listed (C ++ N) (V ++ W) ≡ true
  schemas_grow =
      let of_others = unlisted table T new C is_new.3 in
      all_hold listed (C ++ N) (V ++ W)
      (keys_joined T ((text table ∷ []) ∷ []) is_new.0 refl (none_begin table T new ((text table ∷ []) ∷ []) (ap (λ b. b && true) itself)))
      (ap are_keys (map-append (take 2) C N)
      ∙ keys_joined (map (take 2) C) (map (take 2) N) is_new.1 numbers (none_begin table (map (take 2) C) (short_none table C of_others) (map (take 2) N) (short_begin table N own)))
      (list_all-append (list_all is_filled) C N ∙ ap₂ (λ a b. a && b) is_new.2 filled)
      (list_all-append (is_of_listed listed) C N
      ∙ ap₂ (λ a b. a && b) (weaker (is_of_listed T) (is_of_listed listed) still_listed C is_new.3) (weaker (begins_with table) (is_of_listed listed) own_listed N own))
      (ap are_keys (map-append (take 2) V W) ∙ keys_joined (map (take 2) V) (map (take 2) W) is_new.4 says apart)
      (list_all-append (names_described (C ++ N) (V ++ W)) T ((text table ∷ []) ∷ [])
      ∙ ap₂ (λ a b. a && (b && true)) (still_described T new is_new.5) described)

-- ---- without a table

or_parts : (a b : Bool) → (a || b) ≡ false → (a ≡ false) × (b ≡ false)
or_parts true b e = absurd (cc)
or_parts false b e = (refl, e)

key_kept : (p : List Datum → Bool) (xs : Rows) (k : List Datum) → has_key xs k ≡ false → has_key (filter p xs) k ≡ false
key_kept p [] k none = refl
key_kept p (x ∷ xs) k none = let parts = or_parts (is_eq (key_cmp x k)) (has_key xs k) none in go (p x) parts.0 (key_kept p xs k parts.1)
  where
    go : (b : Bool) → is_eq (key_cmp x k) ≡ false → has_key (filter p xs) k ≡ false → has_key (cond b (x ∷ filter p xs) (filter p xs)) k ≡ false
    go true e later = ap₂ (λ a b. a || b) e later
    go false e later = later

distinct_kept : (p : List Datum → Bool) (xs : Rows) → are_distinct xs ≡ true → are_distinct (filter p xs) ≡ true
distinct_kept p [] once = refl
distinct_kept p (x ∷ xs) once = let parts = and_parts (not (has_key xs x)) (are_distinct xs) once in go (p x) (key_kept p xs x (not_true (has_key xs x) parts.0)) (distinct_kept p xs parts.1)
  where
    go : (b : Bool) → has_key (filter p xs) x ≡ false → are_distinct (filter p xs) ≡ true → are_distinct (cond b (x ∷ filter p xs) (filter p xs)) ≡ true
    go true e later = ap₂ (λ a b. not a && b) e later
    go false e later = later

all_kept : (q p : List Datum → Bool) (xs : Rows) → list_all q xs ≡ true → list_all q (filter p xs) ≡ true
all_kept q p [] all = refl
all_kept q p (x ∷ xs) all = let parts = and_parts (q x) (list_all q xs) all in go (p x) parts.0 (all_kept q p xs parts.1)
  where
    go : (b : Bool) → q x ≡ true → list_all q (filter p xs) ≡ true → list_all q (cond b (x ∷ filter p xs) (filter p xs)) ≡ true
    go true e later = ap₂ (λ a b. a && b) e later
    go false e later = later

keys_kept : (p : List Datum → Bool) (xs : Rows) → are_keys xs ≡ true → are_keys (filter p xs) ≡ true
keys_kept p xs keys =
    let parts = and_parts (list_all (list_all is_filled) xs) (are_distinct xs) keys in
    ap₂ (λ a b. a && b) (all_kept (list_all is_filled) p xs parts.0) (distinct_kept p xs parts.1)

module _ (table : List ℕ) where
  abbrev beside : List Datum → Bool
  beside row = not (begins_with table row)

  short_beside : (xs : Rows) → map (take 2) (filter beside xs) ≡ filter beside (map (take 2) xs)
  short_beside [] = refl
  short_beside (x ∷ xs) = go (begins_with table x) refl (short_beside xs)
    where
      go : (b : Bool) → begins_with table x ≡ b → map (take 2) (filter beside xs) ≡ filter beside (map (take 2) xs)
          → map (take 2) (cond (not b) (x ∷ filter beside xs) (filter beside xs)) ≡ cond (not (begins_with table (take 2 x))) (take 2 x ∷ filter beside (map (take 2) xs)) (filter beside (map (take 2) xs))
      go b is later =
          by b later ∙ ap (λ z. cond (not z) (take 2 x ∷ filter beside (map (take 2) xs)) (filter beside (map (take 2) xs))) (sym (begins_short table x ∙ is))
        where
          by : (b : Bool) → map (take 2) (filter beside xs) ≡ filter beside (map (take 2) xs)
              → map (take 2) (cond (not b) (x ∷ filter beside xs) (filter beside xs)) ≡ cond (not b) (take 2 x ∷ filter beside (map (take 2) xs)) (filter beside (map (take 2) xs))
          by true later = later
          by false later = ap (λ ys. take 2 x ∷ ys) later

  keys_beside : (xs : Rows) → are_keys (map (take 2) xs) ≡ true → are_keys (map (take 2) (filter beside xs)) ≡ true
  keys_beside xs keys = ap are_keys (short_beside xs) ∙ keys_kept beside (map (take 2) xs) keys

  -- a name that differs is found as before
  any_beside : (s : List ℕ) → bytes_eq s table ≡ false → (xs : Rows) → list_any (begins_with s) (filter beside xs) ≡ list_any (begins_with s) xs
  any_beside s differs [] = refl
  any_beside s differs (x ∷ xs) = go (begins_with table x) refl (any_beside s differs xs)
    where
      go : (b : Bool) → begins_with table x ≡ b → list_any (begins_with s) (filter beside xs) ≡ list_any (begins_with s) xs
          → list_any (begins_with s) (cond (not b) (x ∷ filter beside xs) (filter beside xs)) ≡ (begins_with s x || list_any (begins_with s) xs)
      go true is later = later ∙ ap (λ z. z || list_any (begins_with s) xs) (sym (begins_once s table differs x is))
      go false is later = ap (λ z. begins_with s x || z) later

  -- a test that holds of the rows beside the table, where it held of all
  all_beside : (p q : List Datum → Bool) → ((row : List Datum) → begins_with table row ≡ false → p row ≡ true → q row ≡ true) → (xs : Rows) → list_all p xs ≡ true → list_all q (filter beside xs) ≡ true
  all_beside p q so [] all = refl
  all_beside p q so (x ∷ xs) all = let parts = and_parts (p x) (list_all p xs) all in go (begins_with table x) refl parts.0 (all_beside p q so xs parts.1)
    where
      go : (b : Bool) → begins_with table x ≡ b → p x ≡ true → list_all q (filter beside xs) ≡ true → list_all q (cond (not b) (x ∷ filter beside xs) (filter beside xs)) ≡ true
      go true is e later = later
      go false is e later = ap₂ (λ a b. a && b) (so x is e) later

  pub schemas_shrink : (T C V : Rows) → is_schema T C V ≡ true → is_schema (filter beside T) (filter beside C) (filter beside V) ≡ true
  schemas_shrink T C V e =
      let is = parts_of T C V e in
      all_hold (filter beside T) (filter beside C) (filter beside V) (keys_kept beside T is.0) (keys_beside C is.1) (all_kept (list_all is_filled) beside C is.2)
      (all_beside (is_of_listed T) (is_of_listed (filter beside T)) listed C is.3) (keys_beside V is.4)
      (all_beside (names_described C V) (names_described (filter beside C) (filter beside V)) described T is.5)
    where
      listed : (row : List Datum) → begins_with table row ≡ false → is_of_listed T row ≡ true → is_of_listed (filter beside T) row ≡ true
      listed [] f h = h
      listed (null ∷ ds) f h = h
      listed (number z ∷ ds) f h = h
      listed (binary ∷ ds) f h = h
      listed (text s ∷ ds) f h = any_beside s f T ∙ h

      described : (row : List Datum) → begins_with table row ≡ false → names_described C V row ≡ true → names_described (filter beside C) (filter beside V) row ≡ true
      described [] f h = h
      described (null ∷ ds) f h = h
      described (number z ∷ ds) f h = h
      described (binary ∷ ds) f h = h
      described (text s ∷ ds) f h = ap is_some (schema_taken C V s table f) ∙ h
