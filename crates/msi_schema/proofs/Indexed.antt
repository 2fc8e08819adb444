-- One row more in an index, and keys that stand twice.
use Rattle.std.proofs.Common.{◌≡◌, ◌∙◌, ℕ, Bool, true, false, cond, List, [], ◌∷◌, ◌++◌, take, map, refl, sym, ap, ap₂, Option, Some, None, not}
use Rattle.std.specs.Prelude.{◌||◌, ◌&&◌, find}
use Rattle.std.specs.BTreeMap.{get, is_at}
use Rattle.std.specs.Borrow.{Bor}
use Rattle.std.specs.Cmp.Lexicographic.{lists_total}
use Rattle.std.specs.Ordering.{is_eq, ordering_reverse}
use Rattle.std.specs.declared.cmp.Ordering.{Ordering}
use Rattle.std.specs.declared.cmp.Ordering.TheVariants.{Less, Equal, Greater}
use Rattle.std.proofs.lemmas.List.{map-append}
use Rattle.msi_values.specs.Datum.{Datum}
use Rattle.msi_values.specs.Borrowed.{borrowed_data}
use Rattle.msi_values.specs.declared.borrowed.BorrowedValue.{BorrowedValue}
use Rattle.msi_values.proofs.BorrowedOrder.{derived_list_order}
use Rattle.msi_values.proofs.DataOrder.{is_equal, turned_equal}
use Rattle.msi_tables.specs.Table.{are_distinct, has_key, key_cmp}
use Rattle.msi_tables.proofs.Keys.{datum_cmp_total}
use Rattle.msi_schema.specs.Index.{Index, IsIndex, Key, has_first, held_cmp, row_found}

-- ---- keys of a list with one more behind

pub one_key : (x y : List Datum) → is_eq (key_cmp x y) ≡ is_eq (key_cmp y x)
one_key x y = ap is_eq ((lists_total datum_cmp_total).antisymm x y) ∙ turned_equal (key_cmp y x)

has_behind : (xs : List (List Datum)) (k q : List Datum) → has_key (xs ++ k ∷ []) q ≡ (has_key xs q || is_eq (key_cmp k q))
has_behind [] k q = or_false (is_eq (key_cmp k q))
  where
    or_false : (b : Bool) → (b || false) ≡ b
    or_false true = refl
    or_false false = refl
has_behind (x ∷ xs) k q = ap (λ b. is_eq (key_cmp x q) || b) (has_behind xs k q) ∙ regroup (is_eq (key_cmp x q)) (has_key xs q) (is_eq (key_cmp k q))
  where
    regroup : (a b c : Bool) → (a || (b || c)) ≡ ((a || b) || c)
    regroup true b c = refl
    regroup false b c = refl

pub distinct_behind : (xs : List (List Datum)) (k : List Datum) → are_distinct (xs ++ k ∷ []) ≡ (are_distinct xs && not (has_key xs k))
distinct_behind [] k = refl
distinct_behind (x ∷ xs) k =
    ap₂ (λ a b. not a && b) (has_behind xs k x ∙ ap (λ b. has_key xs x || b) (one_key k x)) (distinct_behind xs k)
    ∙ split (has_key xs x) (is_eq (key_cmp x k)) (are_distinct xs) (has_key xs k)
  where
    split : (a b d c : Bool) → (not (a || b) && (d && not c)) ≡ ((not a && d) && not (b || c))
    split true b d c = refl
    split false true true c = refl
    split false true false c = refl
    split false false true c = refl
    split false false false c = refl

pub front_twice : (xs ys : List (List Datum)) → are_distinct xs ≡ false → are_distinct (xs ++ ys) ≡ false
front_twice [] ys e = absurd (cc)
front_twice (x ∷ xs) ys e = by (has_key xs x) refl (are_distinct xs) refl (front_twice xs ys) e
  where
    more : (zs : List (List Datum)) → has_key zs x ≡ true → has_key (zs ++ ys) x ≡ true
    more [] h = absurd (cc)
    more (z ∷ zs) h = on (is_eq (key_cmp z x)) h (more zs)
      where
        on : (b : Bool) → (b || has_key zs x) ≡ true → (has_key zs x ≡ true → has_key (zs ++ ys) x ≡ true) → (b || has_key (zs ++ ys) x) ≡ true
        on true h rest = refl
        on false h rest = rest h

    none : (b : Bool) → (b && false) ≡ false
    none true = refl
    none false = refl

    by : (a : Bool) → has_key xs x ≡ a → (b : Bool) → are_distinct xs ≡ b → (are_distinct xs ≡ false → are_distinct (xs ++ ys) ≡ false) → (not a && b) ≡ false → (not (has_key (xs ++ ys) x) && are_distinct (xs ++ ys)) ≡ false
    by true has b is rest e = ap (λ h. not h && are_distinct (xs ++ ys)) (more xs has)
    by false has true is rest e = absurd (cc)
    by false has false is rest e = ap (λ d. not (has_key (xs ++ ys) x) && d) (rest is) ∙ none (not (has_key (xs ++ ys) x))

-- ---- what is found

abbrev or_else : {A : Type 0} → Option A → Option A → Option A
or_else (Some x) o = Some x
or_else None o = o

find_behind : {A : Type 0} (p : A → Bool) (xs : List A) (x : A) → find p (xs ++ x ∷ []) ≡ or_else (find p xs) (cond (p x) (Some x) None)
find_behind p [] x = refl
find_behind p (y ∷ ys) x = on (p y) (find_behind p ys x)
  where
    on : (b : Bool) → find p (ys ++ x ∷ []) ≡ or_else (find p ys) (cond (p x) (Some x) None) → cond b (Some y) (find p (ys ++ x ∷ [])) ≡ or_else (cond b (Some y) (find p ys)) (cond (p x) (Some x) None)
    on true h = refl
    on false h = h

abbrev is_there : {A : Type 0} → Option A → Bool
is_there None = false
is_there (Some x) = true

found_any : (width : ℕ) (key : List Datum) (rows : List (List Datum)) → has_key (map (take width) rows) key ≡ is_there (find (has_first width key) rows)
found_any width key [] = refl
found_any width key (r ∷ rs) = on (has_first width key r) (found_any width key rs)
  where
    on : (b : Bool) → has_key (map (take width) rs) key ≡ is_there (find (has_first width key) rs) → (b || has_key (map (take width) rs) key) ≡ is_there (cond b (Some r) (find (has_first width key) rs))
    on true h = refl
    on false h = h

is_itself : (k : List Datum) → is_eq (key_cmp k k) ≡ true
is_itself k = on (key_cmp k k) ((lists_total datum_cmp_total).antisymm k k)
  where
    on : (o : Ordering) → o ≡ ordering_reverse o → is_eq o ≡ true
    on Less h = absurd (cc h)
    on Equal h = refl
    on Greater h = absurd (cc h)

at_equal : (x y : Key) → is_at (held_cmp x) y ≡ is_eq (key_cmp (borrowed_data x.items) (borrowed_data y.items))
at_equal x y = ap is_eq (derived_list_order x.items y.items)

module _ (width : ℕ) (done : List (List Datum)) (index : Index) (told : IsIndex width done index) (key : Key) (row : Bor (List BorrowedValue))
    (said : borrowed_data key.items ≡ take width (borrowed_data row.now)) where
  abbrev data_of : List Datum
  data_of = borrowed_data row.now

  -- the key stands already
  pub stands : (old : Bor (List BorrowedValue)) → get held_cmp index key ≡ Some old → are_distinct (map (take width) (done ++ data_of ∷ [])) ≡ false
  stands old is =
      let found : has_key (map (take width) done) (borrowed_data key.items) ≡ true =
      found_any width (borrowed_data key.items) done ∙ ap is_there (sym (told key) ∙ ap row_found is) in
      ap are_distinct (map-append (take width) done (data_of ∷ []))
      ∙ ap (λ k. are_distinct (map (take width) done ++ k ∷ [])) (sym said)
      ∙ distinct_behind (map (take width) done) (borrowed_data key.items)
      ∙ ap (λ b. are_distinct (map (take width) done) && not b) found ∙ none (are_distinct (map (take width) done))
    where
      none : (b : Bool) → (b && false) ≡ false
      none true = refl
      none false = refl

  module _ (absent : get held_cmp index key ≡ None) where
    nothing : find (has_first width (borrowed_data key.items)) done ≡ None
    nothing = sym (told key) ∙ ap row_found absent

    -- the key is new
    pub is_new : are_distinct (map (take width) done) ≡ true → are_distinct (map (take width) (done ++ data_of ∷ [])) ≡ true
    is_new fresh =
        let found : has_key (map (take width) done) (borrowed_data key.items) ≡ false =
        found_any width (borrowed_data key.items) done ∙ ap is_there nothing in
        ap are_distinct (map-append (take width) done (data_of ∷ []))
        ∙ ap (λ k. are_distinct (map (take width) done ++ k ∷ [])) (sym said)
        ∙ distinct_behind (map (take width) done) (borrowed_data key.items)
        ∙ ap₂ (λ a b. a && not b) fresh found

    pub one_more : (new : Index) → ((q : Key) → get held_cmp new q ≡ cond (is_at (held_cmp key) q) (Some row) (get held_cmp index q)) → IsIndex width (done ++ data_of ∷ []) new
    one_more new put q = on (is_at (held_cmp key) q) refl
      where
        mine : is_at (held_cmp key) q ≡ is_eq (key_cmp (take width data_of) (borrowed_data q.items))
        mine = at_equal key q ∙ ap (λ k. is_eq (key_cmp k (borrowed_data q.items))) said

        alike : is_eq (key_cmp (borrowed_data key.items) (borrowed_data q.items)) ≡ true → has_first width (borrowed_data q.items) ≡ has_first width (borrowed_data key.items)
        alike same = λ i ds. (one_key (take width ds) (borrowed_data q.items)
            ∙ ap is_eq (sym ((lists_total datum_cmp_total).congr (borrowed_data key.items) (borrowed_data q.items) (take width ds) (is_equal _ same)))
            ∙ one_key (borrowed_data key.items) (take width ds)) i

        on : (b : Bool) → is_at (held_cmp key) q ≡ b → row_found (get held_cmp new q) ≡ find (has_first width (borrowed_data q.items)) (done ++ data_of ∷ [])
        on true e =
            ap row_found (put q ∙ ap (λ b. cond b (Some row) (get held_cmp index q)) e)
            ∙ sym (find_behind (has_first width (borrowed_data q.items)) done data_of
            ∙ ap (λ o. or_else o (cond (has_first width (borrowed_data q.items) data_of) (Some data_of) None))
            (ap (λ p. find p done) (alike (sym (at_equal key q) ∙ e)) ∙ nothing)
            ∙ ap (λ b. cond b (Some data_of) None) (sym mine ∙ e))
        on false e =
            ap row_found (put q ∙ ap (λ b. cond b (Some row) (get held_cmp index q)) e)
            ∙ told q
            ∙ sym (find_behind (has_first width (borrowed_data q.items)) done data_of
            ∙ ap (λ b. or_else (find (has_first width (borrowed_data q.items)) done) (cond b (Some data_of) None)) (sym mine ∙ e)
            ∙ or_none (find (has_first width (borrowed_data q.items)) done))
          where
            or_none : (o : Option (List Datum)) → or_else o None ≡ o
            or_none None = refl
            or_none (Some x) = refl
