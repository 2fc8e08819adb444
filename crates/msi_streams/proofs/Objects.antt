-- The root's objects where one of a name is put among them or taken out: what filters keep of them, and what stands at other names.
use Rattle.std.proofs.Common.{◌≡◌, ◌∙◌, ℕ, Bool, true, false, cond, List, [], ◌∷◌, Some, None, map, refl, sym, ap}
use Rattle.std.specs.Prelude.{not, filter}
use Rattle.std.specs.List.{AllByRecursion}
use Rattle.std.specs.List.Sorted.{IsStrictlySortedBy}
use Rattle.std.specs.Ordering.{is_eq, is_lt}
use Rattle.std.specs.declared.cmp.Ordering.{Ordering}
use Rattle.std.specs.declared.cmp.Ordering.TheVariants.{Equal, Greater, Less}
use Rattle.std.proofs.lemmas.Map.Keys.{sorted_head, sorted_tail}
use Rattle.cfb_tree.specs.Changes.{without_child}
use Rattle.cfb_tree.specs.Names.{CaseTable, key_cmp, name_cmp, name_key}
use Rattle.cfb_tree.specs.Objects.{a_storage, a_stream, is_same_name, name_of, Object}
use Rattle.cfb_tree.proofs.NameOrder.{name_cmp_total}
use Rattle.cfb_tree.specs.Tree.{child_names, nothing, storage, stream, Content}
use Rattle.msi_spec.specs.Package.{at_name, is_stream, objects}
use Rattle.msi_spec.specs.Streams.{stream_put, with_bytes, without_stream}
use Rattle.msi_streams.proofs.Marks.{key_of_same}

less_is : (o : Ordering) → is_lt o ≡ true → o ≡ Less
less_is Less is = refl
less_is Equal is = absurd (cc)
less_is Greater is = absurd (cc)

not_equal : (o : Ordering) → o ≡ Less → is_eq o ≡ false
not_equal Less is = refl
not_equal Equal is = absurd (cc)
not_equal Greater is = absurd (cc)

is_less : (o : Ordering) → o ≡ Less → is_lt o ≡ true
is_less Less is = refl
is_less Equal is = absurd (cc)
is_less Greater is = absurd (cc)

pub names_of : (c : Content) → map name_of (objects c) ≡ child_names c
names_of nothing = refl
names_of (stream n s b l) = ap (λ ns. n ∷ ns) (names_of l)
names_of (storage n f i l) = ap (λ ns. n ∷ ns) (names_of l)

module _ (letters : CaseTable) where
  -- a name is another than those above its own
  above_differ : (name key other : List ℕ) → is_same_name letters name key ≡ true → name_cmp letters key other ≡ Less → is_same_name letters name other ≡ false
  above_differ name key other same below = ap (λ k. is_eq (key_cmp k (name_key letters other))) (key_of_same letters name key same) ∙ not_equal _ below

  -- two names that differ are told apart by all names that are one with the second
  pub others_differ : (other name key : List ℕ) → is_same_name letters other name ≡ false → is_same_name letters name key ≡ true → is_same_name letters other key ≡ false
  others_differ other name key differs same = ap (λ k. is_eq (key_cmp (name_key letters other) k)) (sym (key_of_same letters name key same)) ∙ differs

  module _ (name : List ℕ) where
    abbrev pub is_here : Object → Bool
    is_here o = is_same_name letters name (name_of o)

    -- those that are below all of a list are below what a filter keeps of it
    kept_above : (P : List ℕ → Type 0) (keep : Object → Bool) (os : List Object) → AllByRecursion P (map name_of os) → AllByRecursion P (map name_of (filter keep os))
    kept_above P keep [] above = tt
    kept_above P keep (o ∷ os) above = by (keep o) (kept_above P keep os above.1)
      where
        by : (b : Bool) → AllByRecursion P (map name_of (filter keep os)) → AllByRecursion P (map name_of (cond b (o ∷ filter keep os) (filter keep os)))
        by true rest = (above.0, rest)
        by false rest = rest

    -- ---- a stream that is put

    module _ (bytes : List ℕ) where
      abbrev put_in : List Object → List Object
      put_in os = stream_put letters name bytes os

      abbrev new_one : Object
      new_one = a_stream name 0 bytes

      named : (o : Object) → name_of (with_bytes letters bytes o) ≡ name_of o
      named (a_stream n s b) = refl
      named (a_storage n f i) = refl

      -- what stands at other names stays
      pub put_apart : (other : List ℕ) → is_same_name letters other name ≡ false → (os : List Object) → at_name letters (put_in os) other ≡ at_name letters os other
      put_apart other differs [] = rw differs refl
      put_apart other differs (o ∷ os) = by (is_here o) (is_lt (name_cmp letters name (name_of o))) refl refl (put_apart other differs os)
        where
          by : (same first : Bool) → is_here o ≡ same → is_lt (name_cmp letters name (name_of o)) ≡ first → at_name letters (put_in os) other ≡ at_name letters os other
              → at_name letters (cond same (with_bytes letters bytes o ∷ os) (cond first (new_one ∷ o ∷ os) (o ∷ put_in os))) other ≡ at_name letters (o ∷ os) other
          by true first is order rest =
              let apart : is_same_name letters other (name_of o) ≡ false = others_differ other name (name_of o) differs is in
              ap (λ n. cond (is_same_name letters other n) (Some (with_bytes letters bytes o)) (at_name letters os other)) (named o)
              ∙ ap (λ b. cond b (Some (with_bytes letters bytes o)) (at_name letters os other)) apart
              ∙ ap (λ b. cond b (Some o) (at_name letters os other)) (sym apart)
          by false true is order rest = ap (λ b. cond b (Some new_one) (at_name letters (o ∷ os) other)) differs
          by false false is order rest = ap (cond (is_same_name letters other (name_of o)) (Some o)) rest

      -- storages are those that were there
      pub put_storages : (os : List Object) → filter (λ o. not (is_stream o)) (put_in os) ≡ filter (λ o. not (is_stream o)) os
      put_storages [] = refl
      put_storages (o ∷ os) = by (is_here o) (is_lt (name_cmp letters name (name_of o))) (put_storages os)
        where
          changed : (o : Object) → filter (λ o. not (is_stream o)) (with_bytes letters bytes o ∷ os) ≡ filter (λ o. not (is_stream o)) (o ∷ os)
          changed (a_stream n s b) = refl
          changed (a_storage n f i) = refl

          by : (same first : Bool) → filter (λ o. not (is_stream o)) (put_in os) ≡ filter (λ o. not (is_stream o)) os
              → filter (λ o. not (is_stream o)) (cond same (with_bytes letters bytes o ∷ os) (cond first (new_one ∷ o ∷ os) (o ∷ put_in os))) ≡ filter (λ o. not (is_stream o)) (o ∷ os)
          by true first rest = changed o
          by false true rest = refl
          by false false rest = ap (λ os. cond (not (is_stream o)) (o ∷ os) os) rest

      -- it comes first where it is below all
      first_put : (os : List Object) → AllByRecursion (λ n. name_cmp letters name n ≡ Less) (map name_of os) → put_in os ≡ new_one ∷ os
      first_put [] above = refl
      first_put (o ∷ os) above =
          ap (λ b. cond b (with_bytes letters bytes o ∷ os) (cond (is_lt (name_cmp letters name (name_of o))) (new_one ∷ o ∷ os) (o ∷ put_in os))) (not_equal _ above.0)
          ∙ ap (λ b. cond b (new_one ∷ o ∷ os) (o ∷ put_in os)) (is_less _ above.0)

      -- a filter that keeps the name's streams goes with a stream that is put
      pub put_kept : (keep : Object → Bool) → ((o : Object) → is_here o ≡ true → keep o ≡ is_stream o) → is_same_name letters name name ≡ true → (os : List Object)
          → IsStrictlySortedBy (name_cmp letters) (map name_of os) → ((o : Object) → at_name letters os name ≡ Some o → is_stream o ≡ true)
          → filter keep (stream_put letters name bytes os) ≡ stream_put letters name bytes (filter keep os)
      put_kept keep kept self [] rising streams = ap (λ b. cond b (a_stream name 0 bytes ∷ []) []) (kept (a_stream name 0 bytes) self)
      put_kept keep kept self (o ∷ os) rising streams =
          by (is_here o) (is_lt (name_cmp letters name (name_of o))) (keep o) refl refl refl
          (λ later. put_kept keep kept self os (sorted_tail (name_cmp letters) (name_of o) (map name_of os) rising) later)
        where
          new_kept : keep new_one ≡ true
          new_kept = kept new_one self

          -- what is below the first is below all that is kept
          above : is_lt (name_cmp letters name (name_of o)) ≡ true → (os : List Object) → AllByRecursion (λ n. name_cmp letters (name_of o) n ≡ Less) (map name_of os) → AllByRecursion (λ n. name_cmp letters name n ≡ Less) (map name_of os)
          above order [] all = tt
          above order (p ∷ ps) all = ((name_cmp_total letters).trans name (name_of o) (name_of p) (less_is _ order) all.0, above order ps all.1)

          changed : (o : Object) → keep o ≡ is_stream o → is_here o ≡ true → is_stream o ≡ true → keep (with_bytes letters bytes o) ≡ true
          changed (a_stream n s b) is here known = kept (a_stream n s bytes) here
          changed (a_storage n f i) is here known = absurd (cc)

          by : (same first k : Bool) → is_here o ≡ same → is_lt (name_cmp letters name (name_of o)) ≡ first → keep o ≡ k
              → (((o : Object) → at_name letters os name ≡ Some o → is_stream o ≡ true) → filter keep (put_in os) ≡ put_in (filter keep os))
              → filter keep (cond same (with_bytes letters bytes o ∷ os) (cond first (new_one ∷ o ∷ os) (o ∷ put_in os))) ≡ put_in (cond k (o ∷ filter keep os) (filter keep os))
          by true first k is order keeps rest =
              let stream : is_stream o ≡ true = streams o (ap (λ b. cond b (Some o) (at_name letters os name)) is) in
              let here : k ≡ true = sym keeps ∙ kept o is ∙ stream in
              ap (λ b. cond b (with_bytes letters bytes o ∷ filter keep os) (filter keep os)) (changed o (kept o is) is stream)
              ∙ ap (λ b. cond b (with_bytes letters bytes o ∷ filter keep os) (cond (is_lt (name_cmp letters name (name_of o))) (new_one ∷ o ∷ filter keep os) (o ∷ put_in (filter keep os)))) (sym is)
              ∙ ap (λ b. put_in (cond b (o ∷ filter keep os) (filter keep os))) (sym here)
          by false true true is order keeps rest =
              ap (λ b. cond b (new_one ∷ filter keep (o ∷ os)) (filter keep (o ∷ os))) new_kept
              ∙ ap (λ b. new_one ∷ cond b (o ∷ filter keep os) (filter keep os)) keeps
              ∙ ap (λ b. cond b (with_bytes letters bytes o ∷ filter keep os) (new_one ∷ o ∷ filter keep os)) (sym is)
              ∙ ap (λ b. cond (is_here o) (with_bytes letters bytes o ∷ filter keep os) (cond b (new_one ∷ o ∷ filter keep os) (o ∷ put_in (filter keep os)))) (sym order)
          by false true false is order keeps rest =
              ap (λ b. cond b (new_one ∷ filter keep (o ∷ os)) (filter keep (o ∷ os))) new_kept
              ∙ ap (λ b. new_one ∷ cond b (o ∷ filter keep os) (filter keep os)) keeps
              ∙ sym (first_put (filter keep os)
              (kept_above (λ n. name_cmp letters name n ≡ Less) keep os (above order os (sorted_head (name_cmp letters) (name_of o) (map name_of os) rising))))
          by false false true is order keeps rest =
              ap (λ b. cond b (o ∷ filter keep (put_in os)) (filter keep (put_in os))) keeps
              ∙ ap (λ os. o ∷ os) (rest (λ p at. streams p (ap (λ b. cond b (Some o) (at_name letters os name)) is ∙ at)))
              ∙ ap (λ b. cond b (with_bytes letters bytes o ∷ filter keep os) (o ∷ put_in (filter keep os))) (sym is)
              ∙ ap (λ b. cond (is_here o) (with_bytes letters bytes o ∷ filter keep os) (cond b (new_one ∷ o ∷ filter keep os) (o ∷ put_in (filter keep os)))) (sym order)
          by false false false is order keeps rest =
              ap (λ b. cond b (o ∷ filter keep (put_in os)) (filter keep (put_in os))) keeps
              ∙ rest (λ p at. streams p (ap (λ b. cond b (Some o) (at_name letters os name)) is ∙ at))

    -- ---- an object that is taken out

    abbrev pub without_first : List Object → List Object
    without_first [] = []
    without_first (o ∷ os) = cond (is_here o) os (o ∷ without_first os)

    pub objects_without : (c : Content) → objects (without_child letters name c) ≡ without_first (objects c)
    objects_without nothing = refl
    objects_without (stream n s b l) = by (is_same_name letters name n) (objects_without l)
      where
        by : (same : Bool) → objects (without_child letters name l) ≡ without_first (objects l)
            → objects (cond same l (stream n s b (without_child letters name l))) ≡ cond same (objects l) (a_stream n s b ∷ without_first (objects l))
        by true rest = refl
        by false rest = ap (λ os. a_stream n s b ∷ os) rest
    objects_without (storage n f i l) = by (is_same_name letters name n) (objects_without l)
      where
        by : (same : Bool) → objects (without_child letters name l) ≡ without_first (objects l)
            → objects (cond same l (storage n f i (without_child letters name l))) ≡ cond same (objects l) (a_storage n f i ∷ without_first (objects l))
        by true rest = refl
        by false rest = ap (λ os. a_storage n f i ∷ os) rest

    -- what stands at other names stays
    pub taken_apart : (other : List ℕ) → is_same_name letters other name ≡ false → (os : List Object) → at_name letters (without_first os) other ≡ at_name letters os other
    taken_apart other differs [] = refl
    taken_apart other differs (o ∷ os) = by (is_here o) refl (taken_apart other differs os)
      where
        by : (same : Bool) → is_here o ≡ same → at_name letters (without_first os) other ≡ at_name letters os other
            → at_name letters (cond same os (o ∷ without_first os)) other ≡ at_name letters (o ∷ os) other
        by true is rest = ap (λ b. cond b (Some o) (at_name letters os other)) (sym (others_differ other name (name_of o) differs is))
        by false is rest = ap (cond (is_same_name letters other (name_of o)) (Some o)) rest

    -- a filter that drops it sees no change
    pub taken_dropped : (keep : Object → Bool) (os : List Object) (o : Object) → at_name letters os name ≡ Some o → keep o ≡ false → filter keep (without_first os) ≡ filter keep os
    taken_dropped keep [] o at drops = refl
    taken_dropped keep (p ∷ os) o at drops = by (is_here p) at (λ later. taken_dropped keep os o later drops)
      where
        by : (same : Bool) → cond same (Some p) (at_name letters os name) ≡ Some o → (at_name letters os name ≡ Some o → filter keep (without_first os) ≡ filter keep os)
            → filter keep (cond same os (p ∷ without_first os)) ≡ filter keep (p ∷ os)
        by true is rest = let same : p ≡ o = cc in ap (λ b. cond b (p ∷ filter keep os) (filter keep os)) (sym (ap keep same ∙ drops))
        by false is rest = ap (λ os. cond (keep p) (p ∷ os) os) (rest is)

    -- none has the name: nothing is taken of what a filter keeps
    none_taken : (keep : Object → Bool) (os : List Object) → at_name letters os name ≡ None → filter (λ o. not (is_here o)) (filter keep os) ≡ filter keep os
    none_taken keep [] at = refl
    none_taken keep (o ∷ os) at = by (is_here o) (keep o) refl at (none_taken keep os)
      where
        by : (same k : Bool) → is_here o ≡ same → cond same (Some o) (at_name letters os name) ≡ None
            → (at_name letters os name ≡ None → filter (λ o. not (is_here o)) (filter keep os) ≡ filter keep os)
            → filter (λ o. not (is_here o)) (cond k (o ∷ filter keep os) (filter keep os)) ≡ cond k (o ∷ filter keep os) (filter keep os)
        by true k is at rest = absurd (cc)
        by false true is at rest = ap (λ b. cond (not b) (o ∷ filter (λ o. not (is_here o)) (filter keep os)) (filter (λ o. not (is_here o)) (filter keep os))) is ∙ ap (λ os. o ∷ os) (rest at)
        by false false is at rest = rest at

    -- no object after one of its name has the name too
    pub none_later : (key : List ℕ) (os : List Object) → is_same_name letters name key ≡ true → AllByRecursion (λ other. name_cmp letters key other ≡ Less) (map name_of os) → at_name letters os name ≡ None
    none_later key [] same above = refl
    none_later key (o ∷ os) same above =
        ap (λ b. cond b (Some o) (at_name letters os name)) (above_differ name key (name_of o) same above.0) ∙ none_later key os same above.1

    abbrev others : List Object → List Object
    others os = filter (λ o. not (is_here o)) os

    -- what a filter keeps loses the same
    pub taken_kept : (keep : Object → Bool) (os : List Object) → IsStrictlySortedBy (name_cmp letters) (map name_of os)
        → without_stream letters name (filter keep os) ≡ filter keep (without_first os)
    taken_kept keep [] rising = refl
    taken_kept keep (o ∷ os) rising = by (is_here o) (keep o) refl refl (taken_kept keep os (sorted_tail (name_cmp letters) (name_of o) (map name_of os) rising))
      where
        by : (same k : Bool) → is_here o ≡ same → keep o ≡ k → others (filter keep os) ≡ filter keep (without_first os)
            → others (cond k (o ∷ filter keep os) (filter keep os)) ≡ filter keep (cond same os (o ∷ without_first os))
        by true true is keeps rest =
            ap (λ b. cond (not b) (o ∷ others (filter keep os)) (others (filter keep os))) is
            ∙ none_taken keep os (none_later (name_of o) os is (sorted_head (name_cmp letters) (name_of o) (map name_of os) rising))
        by true false is keeps rest = none_taken keep os (none_later (name_of o) os is (sorted_head (name_cmp letters) (name_of o) (map name_of os) rising))
        by false true is keeps rest =
            ap (λ b. cond (not b) (o ∷ others (filter keep os)) (others (filter keep os))) is
            ∙ ap (λ os. o ∷ os) rest
            ∙ ap (λ b. cond b (o ∷ filter keep (without_first os)) (filter keep (without_first os))) (sym keeps)
        by false false is keeps rest = rest ∙ ap (λ b. cond b (o ∷ filter keep (without_first os)) (filter keep (without_first os))) (sym keeps)

    -- what stands at the name stands there in what is kept of it
    pub found_kept : (keep : Object → Bool) (os : List Object) (o : Object) → at_name letters os name ≡ Some o → keep o ≡ true → at_name letters (filter keep os) name ≡ Some o
    found_kept keep [] o at keeps = absurd (cc)
    found_kept keep (p ∷ os) o at keeps = by (is_here p) (keep p) refl refl at (λ later. found_kept keep os o later keeps)
      where
        by : (same k : Bool) → is_here p ≡ same → keep p ≡ k → cond same (Some p) (at_name letters os name) ≡ Some o → (at_name letters os name ≡ Some o → at_name letters (filter keep os) name ≡ Some o)
            → at_name letters (cond k (p ∷ filter keep os) (filter keep os)) name ≡ Some o
        by true true is k at rest = ap (λ b. cond b (Some p) (at_name letters (filter keep os) name)) is ∙ at
        by true false is k at rest = let same : p ≡ o = cc in let never : true ≡ false = sym keeps ∙ ap keep (sym same) ∙ k in absurd (cc)
        by false true is k at rest = ap (λ b. cond b (Some p) (at_name letters (filter keep os) name)) is ∙ rest at
        by false false is k at rest = rest at

    -- none stands there in what is kept where what stands there isn't kept, or none does
    pub none_kept : (keep : Object → Bool) (os : List Object) → IsStrictlySortedBy (name_cmp letters) (map name_of os) → ((o : Object) → at_name letters os name ≡ Some o → keep o ≡ false)
        → at_name letters (filter keep os) name ≡ None
    none_kept keep [] rising drops = refl
    none_kept keep (o ∷ os) rising drops = by (is_here o) refl (none_kept keep os (sorted_tail (name_cmp letters) (name_of o) (map name_of os) rising))
      where
        above : AllByRecursion (λ other. name_cmp letters (name_of o) other ≡ Less) (map name_of os)
        above = sorted_head (name_cmp letters) (name_of o) (map name_of os) rising

        passed : (k : Bool) → is_here o ≡ false → at_name letters (filter keep os) name ≡ None → at_name letters (cond k (o ∷ filter keep os) (filter keep os)) name ≡ None
        passed true is rest = ap (λ b. cond b (Some o) (at_name letters (filter keep os) name)) is ∙ rest
        passed false is rest = rest

        by : (same : Bool) → is_here o ≡ same → (((p : Object) → at_name letters os name ≡ Some p → keep p ≡ false) → at_name letters (filter keep os) name ≡ None) → at_name letters (filter keep (o ∷ os)) name ≡ None
        by true is rest =
            let gone : keep o ≡ false = drops o (ap (λ b. cond b (Some o) (at_name letters os name)) is) in
            ap (λ b. at_name letters (cond b (o ∷ filter keep os) (filter keep os)) name) gone
            ∙ rest (λ p at. let none = none_later (name_of o) os is above in let never : None ≡ Some p = sym none ∙ at in absurd (cc))
        by false is rest = passed (keep o) is (rest (λ p at. drops p (ap (λ b. cond b (Some o) (at_name letters os name)) is ∙ at)))

    -- what is found has the name
    pub has_name : (os : List Object) (o : Object) → at_name letters os name ≡ Some o → is_here o ≡ true
    has_name [] o at = absurd (cc)
    has_name (p ∷ os) o at = by (is_here p) refl at (has_name os o)
      where
        by : (same : Bool) → is_here p ≡ same → cond same (Some p) (at_name letters os name) ≡ Some o → (at_name letters os name ≡ Some o → is_here o ≡ true) → is_here o ≡ true
        by true is at rest = let same : p ≡ o = cc in ap is_here (sym same) ∙ is
        by false is at rest = rest at

    -- where none has it none is taken out
    pub taken_none : (os : List Object) → at_name letters os name ≡ None → without_first os ≡ os
    taken_none [] none = refl
    taken_none (o ∷ os) none = by (is_here o) none (taken_none os)
      where
        by : (same : Bool) → cond same (Some o) (at_name letters os name) ≡ None → (at_name letters os name ≡ None → without_first os ≡ os) → cond same os (o ∷ without_first os) ≡ o ∷ os
        by true none rest = absurd (cc)
        by false none rest = ap (λ os. o ∷ os) (rest none)
