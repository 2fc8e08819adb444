-- A stream that is put into the root, told by the list of the root's objects.
use Rattle.std.proofs.Common.{◌≡◌, ℕ, Bool, true, false, List, [], ◌∷◌, Some, None, refl, sym, ap, ◌∙◌}
use Rattle.std.specs.Prelude.{filter}
use Rattle.std.specs.List.{AllByRecursion}
use Rattle.std.specs.List.Sorted.{IsStrictlySortedBy}
use Rattle.std.specs.Ordering.{is_eq, is_lt}
use Rattle.std.specs.declared.cmp.Ordering.{Ordering}
use Rattle.std.specs.declared.cmp.Ordering.TheVariants.{Equal, Greater, Less}
use Rattle.cfb_tree.specs.Changes.{with_changed, with_child}
use Rattle.cfb_tree.specs.Changes.{with_bytes as with_content}
use Rattle.cfb_tree.specs.Names.{CaseTable, name_cmp}
use Rattle.cfb_tree.specs.Objects.{a_storage, a_stream, child, is_same_name, name_of, Object}
use Rattle.cfb_tree.specs.Tree.{child_names, nothing, storage, stream, Content}
use Rattle.cfb_tree.proofs.NameOrder.{name_cmp_total}
use Rattle.msi_spec.specs.Package.{at_name, is_stream, objects, stream_at}
use Rattle.msi_spec.specs.Streams.{stream_put, with_bytes, IsDropped}

pub named : (letters : CaseTable) (bytes : List ℕ) (o : Object) → name_of (with_bytes letters bytes o) ≡ name_of o
named letters bytes (a_stream n s b) = refl
named letters bytes (a_storage n f i) = refl

less_is : (o : Ordering) → is_lt o ≡ true → o ≡ Less
less_is Less is = refl
less_is Equal is = absurd (cc)
less_is Greater is = absurd (cc)

less_differs : (o : Ordering) → o ≡ Less → is_eq o ≡ false
less_differs Less is = refl
less_differs Equal is = absurd (cc)
less_differs Greater is = absurd (cc)

module _ (letters : CaseTable) where
  -- a name that comes before one comes before all behind that
  later_differ : (name n : List ℕ) (c : Content) → name_cmp letters name n ≡ Less → AllByRecursion (λ y. name_cmp letters n y ≡ Less) (child_names c) → child letters c name ≡ None
  later_differ name n nothing less above = refl
  later_differ name n (stream x s b l) less above =
      let here = less_differs (name_cmp letters name x) ((name_cmp_total letters).trans name n x less above.0) in
      rw here (later_differ name n l less above.1)
  later_differ name n (storage x f i l) less above =
      let here = less_differs (name_cmp letters name x) ((name_cmp_total letters).trans name n x less above.0) in
      rw here (later_differ name n l less above.1)

  module _ (name bytes : List ℕ) where
    -- a new one
    pub put_new : (c : Content) → child letters c name ≡ None → objects (with_child letters (a_stream name 0 bytes) c) ≡ stream_put letters name bytes (objects c)
    put_new nothing free = refl
    put_new (stream n s b l) free = by (is_same_name letters name n) (is_lt (name_cmp letters name n)) refl refl (put_new l)
      where
        by : (same first : Bool) → is_same_name letters name n ≡ same → is_lt (name_cmp letters name n) ≡ first
            → (child letters l name ≡ None → objects (with_child letters (a_stream name 0 bytes) l) ≡ stream_put letters name bytes (objects l))
            → objects (with_child letters (a_stream name 0 bytes) (stream n s b l)) ≡ stream_put letters name bytes (objects (stream n s b l))
        by true first is order rest = let taken : Some (a_stream n s b) ≡ None = rw is at free in absurd (cc)
        by false true is order rest = rw is (rw order refl)
        by false false is order rest = rw is (rw order (ap (λ os. a_stream n s b ∷ os) (rest (rw is at free))))
    put_new (storage n f i l) free = by (is_same_name letters name n) (is_lt (name_cmp letters name n)) refl refl (put_new l)
      where
        by : (same first : Bool) → is_same_name letters name n ≡ same → is_lt (name_cmp letters name n) ≡ first
            → (child letters l name ≡ None → objects (with_child letters (a_stream name 0 bytes) l) ≡ stream_put letters name bytes (objects l))
            → objects (with_child letters (a_stream name 0 bytes) (storage n f i l)) ≡ stream_put letters name bytes (objects (storage n f i l))
        by true first is order rest = let taken : Some (a_storage n f i) ≡ None = rw is at free in absurd (cc)
        by false true is order rest = rw is (rw order refl)
        by false false is order rest = rw is (rw order (ap (λ os. a_storage n f i ∷ os) (rest (rw is at free))))

    -- one that is there
    pub put_there : (c : Content) (o : Object) → IsStrictlySortedBy (name_cmp letters) (child_names c) → child letters c name ≡ Some o
        → objects (with_changed letters name (with_content bytes) c) ≡ stream_put letters name bytes (objects c)
    unfolding IsStrictlySortedBy
    put_there nothing o rising there = let never : None ≡ Some o = there in absurd (cc)
    put_there (stream n s b l) o rising there = by (is_same_name letters name n) (is_lt (name_cmp letters name n)) refl refl (put_there l o rising.1)
      where
        by : (same first : Bool) → is_same_name letters name n ≡ same → is_lt (name_cmp letters name n) ≡ first
            → (child letters l name ≡ Some o → objects (with_changed letters name (with_content bytes) l) ≡ stream_put letters name bytes (objects l))
            → objects (with_changed letters name (with_content bytes) (stream n s b l)) ≡ stream_put letters name bytes (objects (stream n s b l))
        by true first is order rest = rw is refl
        by false true is order rest =
            let none = later_differ name n l (less_is (name_cmp letters name n) order) rising.0 in
            let found : child letters l name ≡ Some o = rw is at there in
            let never : None ≡ Some o = sym none ∙ found in absurd (cc)
        by false false is order rest = rw is (rw order (ap (λ os. a_stream n s b ∷ os) (rest (rw is at there))))
    put_there (storage n f i l) o rising there = by (is_same_name letters name n) (is_lt (name_cmp letters name n)) refl refl (put_there l o rising.1)
      where
        by : (same first : Bool) → is_same_name letters name n ≡ same → is_lt (name_cmp letters name n) ≡ first
            → (child letters l name ≡ Some o → objects (with_changed letters name (with_content bytes) l) ≡ stream_put letters name bytes (objects l))
            → objects (with_changed letters name (with_content bytes) (storage n f i l)) ≡ stream_put letters name bytes (objects (storage n f i l))
        by true first is order rest = rw is refl
        by false true is order rest =
            let none = later_differ name n l (less_is (name_cmp letters name n) order) rising.0 in
            let found : child letters l name ≡ Some o = rw is at there in
            let never : None ≡ Some o = sym none ∙ found in absurd (cc)
        by false false is order rest = rw is (rw order (ap (λ os. a_storage n f i ∷ os) (rest (rw is at there))))

    -- what is found under the name, and under others
    pub put_found : (os : List Object) → ((o : Object) → at_name letters os name ≡ Some o → is_stream o ≡ true) → is_same_name letters name name ≡ true → stream_at letters (stream_put letters name bytes os) name ≡ Some bytes
    put_found [] streams self = rw self refl
    put_found (a_stream n s b ∷ os) streams self = by (is_same_name letters name n) (is_lt (name_cmp letters name n)) refl refl (put_found os)
      where
        by : (same first : Bool) → is_same_name letters name n ≡ same → is_lt (name_cmp letters name n) ≡ first
            → (((o : Object) → at_name letters os name ≡ Some o → is_stream o ≡ true) → is_same_name letters name name ≡ true → stream_at letters (stream_put letters name bytes os) name ≡ Some bytes)
            → stream_at letters (stream_put letters name bytes (a_stream n s b ∷ os)) name ≡ Some bytes
        by true first is order rest = rw is (rw is refl)
        by false true is order rest = rw is (rw order (rw self refl))
        by false false is order rest = rw is (rw order (rw is (rest (λ o there. streams o (rw is there)) self)))
    put_found (a_storage n f i ∷ os) streams self = by (is_same_name letters name n) (is_lt (name_cmp letters name n)) refl refl (put_found os)
      where
        by : (same first : Bool) → is_same_name letters name n ≡ same → is_lt (name_cmp letters name n) ≡ first
            → (((o : Object) → at_name letters os name ≡ Some o → is_stream o ≡ true) → is_same_name letters name name ≡ true → stream_at letters (stream_put letters name bytes os) name ≡ Some bytes)
            → stream_at letters (stream_put letters name bytes (a_storage n f i ∷ os)) name ≡ Some bytes
        by true first is order rest = let never : false ≡ true = streams (a_storage n f i) (rw is refl) in absurd (cc)
        by false true is order rest = rw is (rw order (rw self refl))
        by false false is order rest = rw is (rw order (rw is (rest (λ o there. streams o (rw is there)) self)))

    -- objects of the name that a filter drops
    pub put_dropped : (keep : Object → Bool) → IsDropped letters keep name → (os : List Object) → filter keep (stream_put letters name bytes os) ≡ filter keep os
    put_dropped keep d [] = let new = d.new bytes in rw new refl
    put_dropped keep d (o ∷ os) = by (is_same_name letters name (name_of o)) (is_lt (name_cmp letters name (name_of o))) refl refl (put_dropped keep d os)
      where
        by : (same first : Bool) → is_same_name letters name (name_of o) ≡ same → is_lt (name_cmp letters name (name_of o)) ≡ first → filter keep (stream_put letters name bytes os) ≡ filter keep os
            → filter keep (stream_put letters name bytes (o ∷ os)) ≡ filter keep (o ∷ os)
        by true first is order rest =
            let old = d.dropped o is in
            let now = d.dropped (with_bytes letters bytes o) (ap (is_same_name letters name) (named letters bytes o) ∙ is) in
            rw is (rw (old, now) refl)
        by false true is order rest = let new = d.new bytes in rw is (rw order (rw new refl))
        by false false is order rest = rw is (rw order (front (keep o) refl))
          where
            front : (k : Bool) → keep o ≡ k → filter keep (o ∷ stream_put letters name bytes os) ≡ filter keep (o ∷ os)
            front true is = rw is (ap (λ l. o ∷ l) rest)
            front false is = rw is rest
