-- A walk over a tree shows each object once, a storage before its content, and siblings in order.
use Rattle.std.proofs.Common.{◌≡◌, ℕ, ◌+◌, ◌-◌, ◌<◌, Bool, true, false, List, [], ◌∷◌, ◌++◌, length, get_or, suc, zero, append-nil, append_assoc, refl, sym, ap, subst, ◌∙◌, arith, inl, inr, ⊎_elim, length-append}
use Rattle.std.specs.Prelude.{Option, Some, None, if◌then◌else◌}
use Rattle.std.specs.List.{AllByRecursion, Contains}
use Rattle.std.specs.List.Sorted.{IsStrictlySortedBy}
use Rattle.std.specs.Ordering.{is_eq, on, ordering_then}
use Rattle.std.specs.declared.cmp.Ordering.{Ordering}
use Rattle.std.specs.declared.cmp.Ordering.TheVariants.{Less, Equal, Greater}
use Rattle.std.proofs.lemmas.List.{get_or_append_left, get_or-append_right, get_or-append-add}
use Rattle.std.proofs.lemmas.List.Elements.{Contains-append_left, Contains-append_right, All-from_recursion}
use Rattle.std.proofs.lemmas.Map.Keys.{Less-from_sorted}
use Rattle.cfb_spec.specs.TreeRules.{Answer, entries, ShownObject, shown, all_shown, on_storage, stored_path, tree_step, walk}
use Rattle.cfb_siblings.proofs.Naming.{less_turned}
use Rattle.cfb_siblings.proofs.Ordering.{IsOrderedObject}
use Rattle.cfb_tree.specs.Names.{CaseTable, name_cmp}
use Rattle.cfb_tree.specs.Objects.{Object, a_stream, a_storage, name_of, inside_of, is_same_name, child, object_from, object_at, root_object}
use Rattle.cfb_tree.specs.Paths.{Path}
use Rattle.cfb_tree.specs.Tree.{Content, nothing, stream, storage, Facts, Tree, child_names, IsOrdered, IsOrderedInside}
use Rattle.cfb_tree.proofs.NameOrder.{name_cmp_equal}
use Rattle.cfb_tree.proofs.NamesRead.{all_append, two_sides}
use Rattle.cfb_tree.proofs.OneContent.{Some_same}
use Rattle.cfb.specs.Walks.{path_cmp, IsParentOf, IsWalk, AreShownOnce, AreWalkedObjects, HaveParentsBefore, HaveEach, AreSiblingsInOrder, AreRising}

-- ---- lists

sorted_joined : {A : Type 0} (cmp : A → A → Ordering) (xs ys : List A) → IsStrictlySortedBy cmp xs → IsStrictlySortedBy cmp ys
    → AllByRecursion (λ x. AllByRecursion (λ y. cmp x y ≡ Less) ys) xs → IsStrictlySortedBy cmp (xs ++ ys)
unfolding IsStrictlySortedBy
sorted_joined cmp [] ys h k across = k
sorted_joined cmp (x ∷ xs) ys h k across = (all_append (λ y. cmp x y ≡ Less) xs ys h.0 across.0, sorted_joined cmp xs ys h.1 k across.1)

whatever : {A : Type 0} (xs : List A) → AllByRecursion (λ x. Unit {0}) xs
whatever [] = tt
whatever (x ∷ xs) = (tt, whatever xs)

both : {A : Type 0} (P Q : A → Type 0) (xs : List A) → AllByRecursion P xs → AllByRecursion Q xs → AllByRecursion (λ x. P x × Q x) xs
both P Q [] h k = tt
both P Q (x ∷ xs) h k = ((h.0, k.0), both P Q xs h.1 k.1)

-- ---- paths of what is shown

-- what holds of each path that leads on by a name of the content holds of all that is shown in it
below : (c : Content) (path : Path) (Q : List ℕ → Type 0) (P : Path → Type 0) → ((name : List ℕ) (rest : Path) → Q name → P (path ++ name ∷ rest))
    → AllByRecursion Q (child_names c) → AllByRecursion (λ s. P s.path) (all_shown path c)
below nothing path Q P f h = tt
below (stream n b x later) path Q P f h = (f n [] h.0, below later path Q P f h.1)
below (storage n facts inside later) path Q P f h = (
  f n [] h.0,
  all_append (λ s. P s.path) (all_shown (path ++ n ∷ []) inside) (all_shown path later)
      (below inside (path ++ n ∷ []) (λ m. Unit {0}) P (λ m rest u. subst P (sym (append_assoc path (n ∷ []) (m ∷ rest))) (f n (m ∷ rest) h.0)) (whatever (child_names inside)))
      (below later path Q P f h.1),
)

module _ (letters : CaseTable) where
  name_self : (a : List ℕ) → name_cmp letters a a ≡ Equal
  name_self a = (name_cmp_equal letters a a).1 refl

  path_self : (p : Path) → path_cmp letters p p ≡ Equal
  path_self [] = refl
  path_self (n ∷ ns) = ap (λ o. ordering_then o (path_cmp letters ns ns)) (name_self n) ∙ path_self ns

  same_front : (front a b : Path) → path_cmp letters (front ++ a) (front ++ b) ≡ path_cmp letters a b
  same_front [] a b = refl
  same_front (n ∷ ns) a b = ap (λ o. ordering_then o (path_cmp letters (ns ++ a) (ns ++ b))) (name_self n) ∙ same_front ns a b

  front_first : (p : Path) (m : List ℕ) (rest : Path) → path_cmp letters p (p ++ m ∷ rest) ≡ Less
  front_first [] m rest = refl
  front_first (n ∷ ns) m rest = ap (λ o. ordering_then o (path_cmp letters ns (ns ++ m ∷ rest))) (name_self n) ∙ front_first ns m rest

  sibling_first : (front : Path) (a : List ℕ) (more : Path) (b : List ℕ) (rest : Path) → name_cmp letters a b ≡ Less
      → path_cmp letters (front ++ a ∷ more) (front ++ b ∷ rest) ≡ Less
  sibling_first front a more b rest less =
      same_front front (a ∷ more) (b ∷ rest) ∙ ap (λ o. ordering_then o (path_cmp letters more rest)) less

  -- a path by a name comes before all that is shown by the later names
  later_all : (later : Content) (path : Path) (n : List ℕ) (more : Path) → AllByRecursion (λ m. name_cmp letters n m ≡ Less) (child_names later)
      → AllByRecursion (λ s. path_cmp letters (path ++ n ∷ more) s.path ≡ Less) (all_shown path later)
  later_all later path n more h = below later path (λ m. name_cmp letters n m ≡ Less) (λ p. path_cmp letters (path ++ n ∷ more) p ≡ Less)
      (λ m rest less. sibling_first path n more m rest less) h

  rising : (c : Content) (path : Path) → IsOrdered letters c → AreRising letters (all_shown path c)
  unfolding IsStrictlySortedBy
  rising nothing path h = tt
  rising (stream n b x later) path h = (later_all later path n [] h.0.0, rising later path (h.0.1, h.1))
  rising (storage n facts inside later) path h = (
    all_append (λ s. path_cmp letters (path ++ n ∷ []) s.path ≡ Less) (all_shown (path ++ n ∷ []) inside) (all_shown path later)
        (below inside (path ++ n ∷ []) (λ m. Unit {0}) (λ p. path_cmp letters (path ++ n ∷ []) p ≡ Less) (λ m rest u. front_first (path ++ n ∷ []) m rest) (whatever (child_names inside)))
        (later_all later path n [] h.0.0),
    sorted_joined (on (λ s. s.path) (path_cmp letters)) (all_shown (path ++ n ∷ []) inside) (all_shown path later)
        (rising inside (path ++ n ∷ []) (h.1.0, h.1.1))
        (rising later path (h.0.1, h.1.2))
        (below inside (path ++ n ∷ []) (λ m. Unit {0}) (λ p. AllByRecursion (λ s. path_cmp letters p s.path ≡ Less) (all_shown path later))
        (λ m rest u. subst (λ p. AllByRecursion (λ s. path_cmp letters p s.path ≡ Less) (all_shown path later)) (sym (append_assoc path (n ∷ []) (m ∷ rest))) (later_all later path n (m ∷ rest) h.0.0))
        (whatever (child_names inside))),
  )

  walked_rising : (top : ShownObject) (c : Content) → IsOrdered letters c → AreRising letters (top ∷ all_shown top.path c)
  unfolding IsStrictlySortedBy
  walked_rising top c h = (
    below c top.path (λ m. Unit {0}) (λ p. path_cmp letters top.path p ≡ Less) (λ m rest u. front_first top.path m rest) (whatever (child_names c)),
    rising c top.path h,
  )

  -- ---- what rising paths tell

  not_both : (o : Ordering) → o ≡ Equal → o ≡ Less → ⊥
  not_both o equal less = cc

  rising_once : (all : List ShownObject) → AreRising letters all → AreShownOnce all
  rising_once all up i j d before short same =
      let less = Less-from_sorted (on (λ s. s.path) (path_cmp letters)) all i j d up before short in
      not_both (path_cmp letters (get_or all i d).path (get_or all i d).path) (path_self (get_or all i d).path)
      (subst (λ p. path_cmp letters (get_or all i d).path p ≡ Less) (sym same) less)

  first_decides : (o : Ordering) → ordering_then o Equal ≡ Less → o ≡ Less
  first_decides Less e = refl
  first_decides Equal e = absurd (cc)
  first_decides Greater e = absurd (cc)

  rising_siblings : (all : List ShownObject) → AreRising letters all → AreSiblingsInOrder letters all
  rising_siblings all up i j d before short parent of_first of_second =
      let first = get_or all i d in
      let second = get_or all j d in
      let less = Less-from_sorted (on (λ s. s.path) (path_cmp letters)) all i j d up before short in
      let ended = subst (λ p. path_cmp letters p (parent.path ++ second.name ∷ []) ≡ Less) of_first.path_is (subst (λ p. path_cmp letters first.path p ≡ Less) of_second.path_is less) in
      first_decides (name_cmp letters first.name second.name) (sym (same_front parent.path (first.name ∷ []) (second.name ∷ [])) ∙ ended)

-- ---- parents

-- what follows a storage, with one more child before it and what that holds
module _ (top s : ShownObject) (mid later : List ShownObject) (of_top : IsParentOf top s) (in_mid : HaveParentsBefore (s ∷ mid)) (in_later : HaveParentsBefore (top ∷ later)) where
  child_in_mid : (k : ℕ) (d : ShownObject) → k < length mid → (j : ℕ) × (j < suc (suc k)) × IsParentOf (get_or (top ∷ s ∷ (mid ++ later)) j d) (get_or (mid ++ later) k d)
  child_in_mid k d short =
      let (j, before, is) = in_mid (suc k) d (omega arith) (omega (arith, short)) in (
        suc j,
        omega (arith, before),
        subst (λ p. IsParentOf p (get_or (mid ++ later) k d)) (sym (get_or_append_left (s ∷ mid) later d j (omega (arith, before, short))))
            (subst (λ x. IsParentOf (get_or (s ∷ mid) j d) x) (sym (get_or_append_left mid later d k short)) is),
      )

  child_in_later : (k : ℕ) (d : ShownObject) → k < length later → (j : ℕ) × (j < suc (suc (length mid + k))) × IsParentOf (get_or (top ∷ s ∷ (mid ++ later)) j d) (get_or later k d)
  child_in_later k d short = let (j, before, is) = in_later (suc k) d (omega arith) (omega (arith, short)) in moved j before is
    where
      moved : (j : ℕ) → j < suc k → IsParentOf (get_or (top ∷ later) j d) (get_or later k d)
          → (j : ℕ) × (j < suc (suc (length mid + k))) × IsParentOf (get_or (top ∷ s ∷ (mid ++ later)) j d) (get_or later k d)
      moved zero before is = (zero, omega arith, is)
      moved (suc j) before is = (
        suc (suc (length mid + j)),
        omega (arith, before),
        subst (λ p. IsParentOf p (get_or later k d)) (sym (get_or-append-add mid later j d)) is,
      )

  parents_joined : HaveParentsBefore (top ∷ s ∷ (mid ++ later))
  parents_joined zero d some short = absurd (omega (arith, some))
  parents_joined (suc zero) d some short = (zero, omega arith, of_top)
  parents_joined (suc (suc k)) d some short = ⊎_elim
      (λ within. child_in_mid k d within)
      (λ past.
      let long = length-append mid later in
      let (j, before, is) = child_in_later (k - length mid) d (omega (arith, short, past, long)) in (
        j,
        omega (arith, before, past),
        subst (λ x. IsParentOf (get_or (top ∷ s ∷ (mid ++ later)) j d) x) (sym (get_or-append_right mid later (length mid) k d refl past)) is,
      ))
      (two_sides k (length mid))

alone : (s : ShownObject) → HaveParentsBefore (s ∷ [])
alone s k d some short = absurd (omega (arith, some, short))

parents : (c : Content) (path : Path) (top : ShownObject) → top.is_storage ≡ true → top.path ≡ path → HaveParentsBefore (top ∷ all_shown path c)
parents nothing path top is at = alone top
parents (stream n b x later) path top is at =
    parents_joined top (shown (path ++ n ∷ []) (a_stream n b x)) [] (all_shown path later)
    record { is_storage = is; path_is = ap (λ p. p ++ n ∷ []) (sym at) }
    (alone (shown (path ++ n ∷ []) (a_stream n b x)))
    (parents later path top is at)
parents (storage n facts inside later) path top is at =
    parents_joined top (shown (path ++ n ∷ []) (a_storage n facts inside)) (all_shown (path ++ n ∷ []) inside) (all_shown path later)
    record { is_storage = is; path_is = ap (λ p. p ++ n ∷ []) (sym at) }
    (parents inside (path ++ n ∷ []) (shown (path ++ n ∷ []) (a_storage n facts inside)) refl refl)
    (parents later path top is at)

-- ---- objects by their paths

-- what a test chooses
chosen : (R : Type 0) (x o : Object) (other : Option Object) (b : Bool) → (if b then Some x else other) ≡ Some o
    → (b ≡ true → x ≡ o → R) → (other ≡ Some o → R) → R
chosen R x o other true e first rest = first refl (Some_same e)
chosen R x o other false e first rest = rest e

module _ (letters : CaseTable) where
  from_none : (names : Path) → object_from letters None names ≡ None
  from_none [] = refl
  from_none (name ∷ names) = refl

  from_end : (o : Option Object) → object_from letters o [] ≡ o
  from_end None = refl
  from_end (Some o) = refl

  from_joined : (xs : Path) (o : Option Object) (ys : Path) → object_from letters o (xs ++ ys) ≡ object_from letters (object_from letters o xs) ys
  from_joined xs None ys = from_none (xs ++ ys) ∙ sym (ap (λ o. object_from letters o ys) (from_none xs) ∙ from_none ys)
  from_joined [] (Some o) ys = refl
  from_joined (x ∷ xs) (Some o) ys = from_joined xs (child letters (inside_of o) x) ys

  goes_on : (first : Option Object) (names : Path) (o : Object) → object_from letters first names ≡ Some o
      → (y : Object) × (first ≡ Some y) × (object_from letters (Some y) names ≡ Some o)
  goes_on None names o at = let never : None ≡ Some o = sym (from_none names) ∙ at in absurd (cc)
  goes_on (Some y) names o at = (y, refl, at)

  -- ---- what storages hold is in order

  child_ordered : (c : Content) (wanted : List ℕ) (o : Object) → child letters c wanted ≡ Some o → IsOrderedInside letters c → IsOrderedObject letters o
  child_ordered nothing wanted o e h = absurd (cc)
  child_ordered (stream n b x later) wanted o e h = chosen (IsOrderedObject letters o) (a_stream n b x) o (child letters later wanted) (is_same_name letters wanted n) e
      (λ t is. subst (IsOrderedObject letters) is tt) (λ e'. child_ordered later wanted o e' h)
  child_ordered (storage n f i later) wanted o e h = chosen (IsOrderedObject letters o) (a_storage n f i) o (child letters later wanted) (is_same_name letters wanted n) e
      (λ t is. subst (IsOrderedObject letters) is (h.0, h.1)) (λ e'. child_ordered later wanted o e' h.2)

  inside_ordered : (o : Object) → IsOrderedObject letters o → IsOrderedInside letters (inside_of o)
  inside_ordered (a_stream n b x) h = tt
  inside_ordered (a_storage n f i) h = h.1

  from_ordered : (names : Path) (start o : Object) → object_from letters (Some start) names ≡ Some o → IsOrderedObject letters start → IsOrderedObject letters o
  from_ordered [] start o at h = subst (IsOrderedObject letters) (Some_same at) h
  from_ordered (name ∷ names) start o at h =
      let (y, is, on) = goes_on (child letters (inside_of start) name) names o at in
      from_ordered names y o on (child_ordered (inside_of start) name y is (inside_ordered start h))

  -- ---- each that is shown is found

  same_self : (n : List ℕ) → is_same_name letters n n ≡ true
  same_self n = ap is_eq (name_self letters n)

  other_name : (n m : List ℕ) → name_cmp letters n m ≡ Less → is_same_name letters m n ≡ false
  other_name n m less = ap is_eq (less_turned letters m n less)

  further : (p : Path) (start : Option Object) (n : List ℕ) (f : Facts) (i : Content) → object_from letters start p ≡ Some (a_storage n f i)
      → (m : List ℕ) → object_from letters start (p ++ m ∷ []) ≡ child letters i m
  further p start n f i is m = from_joined p start (m ∷ []) ∙ ap (λ o. object_from letters o (m ∷ [])) is ∙ from_end (child letters i m)

  module _ (tree : Tree) where
    abbrev IsFound : ShownObject → Type 0
    IsFound s = (object : Object) × (object_at letters tree s.path ≡ Some object) × (s ≡ shown s.path object)

    found : (c : Content) (path : Path) (Q : List ℕ → Type 0) → AllByRecursion Q (child_names c) → IsOrdered letters c
        → ((m : List ℕ) (o : Object) → Q m → child letters c m ≡ Some o → object_at letters tree (path ++ m ∷ []) ≡ Some o)
        → AllByRecursion IsFound (all_shown path c)
    unfolding IsStrictlySortedBy
    found nothing path Q q h finds = tt
    found (stream n b x later) path Q q h finds = (
      (a_stream n b x, finds n (a_stream n b x) q.0 (ap (λ t. if t then Some (a_stream n b x) else child letters later n) (same_self n)), refl),
      found later path (λ m. Q m × (name_cmp letters n m ≡ Less)) (both Q (λ m. name_cmp letters n m ≡ Less) (child_names later) q.1 h.0.0) (h.0.1, h.1)
          (λ m o r e. finds m o r.0 (ap (λ t. if t then Some (a_stream n b x) else child letters later m) (other_name n m r.1) ∙ e)),
    )
    found (storage n f i later) path Q q h finds =
        let here = finds n (a_storage n f i) q.0 (ap (λ t. if t then Some (a_storage n f i) else child letters later n) (same_self n)) in (
          (a_storage n f i, here, refl),
          all_append IsFound (all_shown (path ++ n ∷ []) i) (all_shown path later)
              (found i (path ++ n ∷ []) (λ m. Unit {0}) (whatever (child_names i)) (h.1.0, h.1.1)
              (λ m o u e. further (path ++ n ∷ []) (Some (root_object tree)) n f i here m ∙ e))
              (found later path (λ m. Q m × (name_cmp letters n m ≡ Less)) (both Q (λ m. name_cmp letters n m ≡ Less) (child_names later) q.1 h.0.0) (h.0.1, h.1.2)
              (λ m o r e. finds m o r.0 (ap (λ t. if t then Some (a_storage n f i) else child letters later m) (other_name n m r.1) ∙ e))),
        )

    all_found : IsOrdered letters tree.content → AllByRecursion IsFound (shown [] (root_object tree) ∷ all_shown [] tree.content)
    all_found h = (
      (root_object tree, refl, refl),
      found tree.content [] (λ m. Unit {0}) (whatever (child_names tree.content)) h (λ m o u e. from_end (child letters tree.content m) ∙ e),
    )

  -- ---- each that is found is shown

  -- an object and all that it holds, at a path
  abbrev from_here : Path → Object → List ShownObject
  from_here path o = shown path o ∷ all_shown path (inside_of o)

  record Stands (path : Path) (c : Content) (wanted : List ℕ) (o : Object) : Type 0 where
    same : name_cmp letters wanted (name_of o) ≡ Equal
    there : (x : ShownObject) → Contains (from_here (path ++ name_of o ∷ []) o) x → Contains (all_shown path c) x

  equal_from : (o : Ordering) → is_eq o ≡ true → o ≡ Equal
  equal_from Less e = absurd (cc)
  equal_from Equal e = refl
  equal_from Greater e = absurd (cc)

  child_stands : (c : Content) (path : Path) (wanted : List ℕ) (o : Object) → child letters c wanted ≡ Some o → Stands path c wanted o
  child_stands nothing path wanted o e = absurd (cc)
  child_stands (stream n b x later) path wanted o e =
      let first = shown (path ++ n ∷ []) (a_stream n b x) ∷ [] in
      chosen (Stands path (stream n b x later) wanted o) (a_stream n b x) o (child letters later wanted) (is_same_name letters wanted n) e
      (λ t is. subst (Stands path (stream n b x later) wanted) is record {
        same = equal_from (name_cmp letters wanted n) t;
        there = λ y h. Contains-append_left first (all_shown path later) y h;
      })
      (λ e'. let s = child_stands later path wanted o e' in record {
        same = s.same;
        there = λ y h. Contains-append_right first (all_shown path later) y (s.there y h);
      })
  child_stands (storage n f i later) path wanted o e =
      let first = from_here (path ++ n ∷ []) (a_storage n f i) in
      chosen (Stands path (storage n f i later) wanted o) (a_storage n f i) o (child letters later wanted) (is_same_name letters wanted n) e
      (λ t is. subst (Stands path (storage n f i later) wanted) is record {
        same = equal_from (name_cmp letters wanted n) t;
        there = λ y h. Contains-append_left first (all_shown path later) y h;
      })
      (λ e'. let s = child_stands later path wanted o e' in record {
        same = s.same;
        there = λ y h. Contains-append_right first (all_shown path later) y (s.there y h);
      })

  reached : (names : Path) (start o : Object) (path : Path) → object_from letters (Some start) names ≡ Some o
      → (rest : Path) × (path_cmp letters names rest ≡ Equal) × Contains (from_here path start) (shown (path ++ rest) o)
  reached [] start o path at = ([], refl, (0, omega arith, ap (λ y. shown path y) (Some_same at) ∙ ap (λ p. shown p o) (sym (append-nil path))))
  reached (name ∷ names) start o path at =
      let (y, is, on) = goes_on (child letters (inside_of start) name) names o at in
      let s = child_stands (inside_of start) path name y is in
      let (rest, same, there) = reached names y o (path ++ name_of y ∷ []) on in (
        name_of y ∷ rest,
        ap (λ t. ordering_then t (path_cmp letters names rest)) s.same ∙ same,
        Contains-append_right (shown path start ∷ []) (all_shown path (inside_of start)) (shown (path ++ name_of y ∷ rest) o)
            (subst (Contains (all_shown path (inside_of start))) (ap (λ p. shown p o) (append_assoc path (name_of y ∷ []) rest))
            (s.there (shown ((path ++ name_of y ∷ []) ++ rest) o) there)),
      )

-- ---- the answers of walks

abbrev list_of : Answer → List ShownObject
list_of (entries all) = all
list_of answer = []

-- a storage, and all that it holds
record Walked (letters : CaseTable) (tree : Tree) (all : List ShownObject) : Type 0 where
  top : ShownObject
  content : Content
  is_storage : top.is_storage ≡ true
  ordered : IsOrdered letters tree.content → IsOrdered letters content
  all_is : top ∷ all_shown top.path content ≡ all

module _ (letters : CaseTable) (tree : Tree) (all : List ShownObject) where
  walked_at : (path : Path) (o : Option Object) → object_at letters tree path ≡ o
      → (on_storage tree (λ o. (tree, entries (shown (stored_path path o) o ∷ all_shown (stored_path path o) (inside_of o)))) o).1 ≡ entries all
      → Walked letters tree all
  walked_at path None is told = absurd (cc)
  walked_at path (Some (a_stream n b x)) is told = absurd (cc)
  walked_at path (Some (a_storage n f i)) is told = record {
    top = shown (stored_path path (a_storage n f i)) (a_storage n f i);
    content = i;
    is_storage = refl;
    ordered = λ h. from_ordered letters path (root_object tree) (a_storage n f i) is h;
    all_is = ap list_of told;
  }

  walked : IsWalk letters tree all → Walked letters tree all
  walked (inl told) = record { top = shown [] (root_object tree); content = tree.content; is_storage = refl; ordered = λ h. h; all_is = ap list_of told }
  walked (inr (path, told)) = walked_at path (object_at letters tree path) refl told

  pub walk_rises : IsWalk letters tree all → IsOrdered letters tree.content → AreRising letters all
  walk_rises is h = let w = walked is in subst (AreRising letters) w.all_is (walked_rising letters w.top w.content (w.ordered h))

  pub walk_shows_once : IsWalk letters tree all → IsOrdered letters tree.content → AreShownOnce all
  walk_shows_once is h = rising_once letters all (walk_rises is h)

  pub walk_shows_parents_first : IsWalk letters tree all → HaveParentsBefore all
  walk_shows_parents_first is = let w = walked is in subst HaveParentsBefore w.all_is (parents w.content w.top.path w.top w.is_storage refl)

  pub walk_keeps_siblings_in_order : IsWalk letters tree all → IsOrdered letters tree.content → AreSiblingsInOrder letters all
  walk_keeps_siblings_in_order is h = rising_siblings letters all (walk_rises is h)

  pub walk_shows_what_is_found : (tree_step letters tree walk).1 ≡ entries all → IsOrdered letters tree.content → AreWalkedObjects letters tree all
  walk_shows_what_is_found told h = subst (AreWalkedObjects letters tree) (ap list_of told) (All-from_recursion (IsFound letters tree) (shown [] (root_object tree) ∷ all_shown [] tree.content) (all_found letters tree h))

  pub walk_shows_each : (tree_step letters tree walk).1 ≡ entries all → HaveEach letters tree all
  walk_shows_each told path object at =
      let (rest, same, there) = reached letters path (root_object tree) object [] at in
      (rest, same, subst (λ l. Contains l (shown rest object)) (ap list_of told) there)
