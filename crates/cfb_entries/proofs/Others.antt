-- What a change at a path leaves of the objects at every path.
use Rattle.std.proofs.Common.{◌≡◌, ℕ, ◌-◌, ◌<◌, Bool, true, false, List, [], ◌∷◌, ◌++◌, append-nil, drop, length, take, suc, refl, ap, sym, subst, ◌∙◌, arith}
use Rattle.std.specs.Prelude.{if◌then◌else◌, ◌&&◌, None, Option, Some}
use Rattle.std.specs.List.{AllByRecursion}
use Rattle.std.specs.List.Sorted.{IsStrictlySortedBy}
use Rattle.std.specs.Option.{option_map}
use Rattle.std.specs.Ordering.{is_eq, is_lt, ordering_reverse}
use Rattle.std.specs.declared.cmp.Ordering.{Ordering}
use Rattle.std.specs.declared.cmp.Ordering.TheVariants.{Equal, Greater, Less}
use Rattle.cfb_tree.specs.Changes.{added, changed, changed_below, holding, last_of, parent_of, removed, with_changed, with_child, without_child}
use Rattle.cfb_tree.specs.Names.{CaseTable, name_cmp}
use Rattle.cfb_tree.specs.Objects.{a_storage, a_stream, before, child, is_same_name, name_of, object_at, object_from, root_object, tree_of, Object}
use Rattle.cfb_tree.specs.Paths.{Path}
use Rattle.cfb_tree.specs.Tree.{child_names, nothing, storage, stream, Content, IsOrdered, IsOrderedInside, Tree}
use Rattle.cfb_tree.proofs.NameOrder.{name_cmp_total}
use Rattle.cfb_siblings.specs.Places.{path_to}
use Rattle.cfb_siblings.proofs.Leading.{object_from_last}
use Rattle.cfb_siblings.proofs.Lists.{all_map, sorted_around, sorted_parts}
use Rattle.cfb_siblings.proofs.Naming.{child_here, child_none, others_above}
use Rattle.cfb_siblings.proofs.Ordering.{IsOrderedObject}
use Rattle.cfb_entries.specs.Others.{alone, is_front, HasFreePlace, KeepsOthers, NoneStandsAt, IsObjectListed}

eq_turned : (o : Ordering) → is_eq (ordering_reverse o) ≡ is_eq o
eq_turned Less = refl
eq_turned Equal = refl
eq_turned Greater = refl

eq_equal : (o : Ordering) → is_eq o ≡ true → o ≡ Equal
eq_equal Less is = absurd (cc)
eq_equal Equal is = refl
eq_equal Greater is = absurd (cc)

pub eq_self : (o : Ordering) → o ≡ ordering_reverse o → is_eq o ≡ true
eq_self Less is = absurd (cc)
eq_self Equal is = refl
eq_self Greater is = absurd (cc)

both_true : (a b : Bool) → (a && b) ≡ true → (a ≡ true) × (b ≡ true)
both_true true b is = (refl, is)
both_true false b is = absurd (cc)

pub path_is : (path : Path) → 0 < length path → path_to (parent_of path) (last_of path) ≡ path
path_is [] some = absurd (omega (arith, some))
path_is (name ∷ []) some = refl
path_is (name ∷ next ∷ names) some =
    let n = length names in
    let one : suc (suc n) - 1 ≡ suc n = omega arith in
    let two : suc n - 1 ≡ n = omega arith in
    ap (λ k. take k (name ∷ next ∷ names) ++ last_of (next ∷ names) ∷ []) one ∙ ap (λ k. name ∷ (take k (next ∷ names) ++ last_of (next ∷ names) ∷ [])) (sym two)
    ∙ ap (λ l. name ∷ l) (path_is (next ∷ names) (omega arith))

module _ (letters : CaseTable) where
  same_turned : (a b : List ℕ) → is_same_name letters a b ≡ is_same_name letters b a
  same_turned a b = ap is_eq ((name_cmp_total letters).antisymm a b) ∙ eq_turned (name_cmp letters b a)

  same_self : (a : List ℕ) → is_same_name letters a a ≡ true
  same_self a = eq_self (name_cmp letters a a) ((name_cmp_total letters).antisymm a a)

  same_as : (a b z : List ℕ) → is_same_name letters a b ≡ true → is_same_name letters a z ≡ is_same_name letters b z
  same_as a b z is = ap is_eq ((name_cmp_total letters).congr a b z (eq_equal (name_cmp letters a b) is))

  -- the same of what is compared
  same_of : (a b z : List ℕ) → is_same_name letters a b ≡ true → is_same_name letters z a ≡ is_same_name letters z b
  same_of a b z is = same_turned z a ∙ same_as a b z is ∙ same_turned b z

  front_self : (path : Path) → is_front letters path path ≡ true
  front_self [] = refl
  front_self (name ∷ names) = let same = same_self name in rw same (front_self names)

  nothing_from : (names : Path) → object_from letters None names ≡ None
  nothing_from [] = refl
  nothing_from (name ∷ names) = refl

  -- children of another name, and of the same
  child_before : (o : Object) (c : Content) (x : List ℕ) → is_same_name letters x (name_of o) ≡ false → child letters (before o c) x ≡ child letters c x
  child_before (a_stream n s b) c x differ = rw differ refl
  child_before (a_storage n f i) c x differ = rw differ refl

  child_same : (c : Content) (a b : List ℕ) → is_same_name letters a b ≡ true → child letters c a ≡ child letters c b
  child_same nothing a b same = refl
  child_same (stream n s x l) a b same =
      ap (λ t. if t then Some (a_stream n s x) else child letters l a) (same_as a b n same) ∙ ap (λ y. if is_same_name letters b n then Some (a_stream n s x) else y) (child_same l a b same)
  child_same (storage n f i l) a b same =
      ap (λ t. if t then Some (a_storage n f i) else child letters l a) (same_as a b n same) ∙ ap (λ y. if is_same_name letters b n then Some (a_storage n f i) else y) (child_same l a b same)

  -- one that was added
  with_other : (o : Object) (x : List ℕ) → is_same_name letters (name_of o) x ≡ false → (c : Content) → child letters (with_child letters o c) x ≡ child letters c x
  with_other o x differ nothing = child_before o nothing x (same_turned x (name_of o) ∙ differ)
  with_other o x differ (stream n s b l) = by_order (is_lt (name_cmp letters (name_of o) n)) refl (with_other o x differ l)
    where
      by_order : (first : Bool) → is_lt (name_cmp letters (name_of o) n) ≡ first → child letters (with_child letters o l) x ≡ child letters l x → child letters (with_child letters o (stream n s b l)) x ≡ child letters (stream n s b l) x
      by_order true is rest = rw is (child_before o (stream n s b l) x (same_turned x (name_of o) ∙ differ))
      by_order false is rest = rw is (ap (λ y. if is_same_name letters x n then Some (a_stream n s b) else y) rest)
  with_other o x differ (storage n f i l) = by_order (is_lt (name_cmp letters (name_of o) n)) refl (with_other o x differ l)
    where
      by_order : (first : Bool) → is_lt (name_cmp letters (name_of o) n) ≡ first → child letters (with_child letters o l) x ≡ child letters l x → child letters (with_child letters o (storage n f i l)) x ≡ child letters (storage n f i l) x
      by_order true is rest = rw is (child_before o (storage n f i l) x (same_turned x (name_of o) ∙ differ))
      by_order false is rest = rw is (ap (λ y. if is_same_name letters x n then Some (a_storage n f i) else y) rest)

  with_there : (o : Object) (c : Content) → child letters c (name_of o) ≡ None → child letters (with_child letters o c) (name_of o) ≡ Some o
  with_there o nothing free = child_here letters (name_of o) o nothing (same_self (name_of o))
  with_there o (stream n s b l) free = by_order (is_lt (name_cmp letters (name_of o) n)) (is_same_name letters (name_of o) n) refl refl (with_there o l)
    where
      by_order : (first same : Bool) → is_lt (name_cmp letters (name_of o) n) ≡ first → is_same_name letters (name_of o) n ≡ same → (child letters l (name_of o) ≡ None → child letters (with_child letters o l) (name_of o) ≡ Some o)
          → child letters (with_child letters o (stream n s b l)) (name_of o) ≡ Some o
      by_order true same is names rest = rw is (child_here letters (name_of o) o (stream n s b l) (same_self (name_of o)))
      by_order false true is names rest = let taken : Some (a_stream n s b) ≡ None = sym (child_here letters (name_of o) (a_stream n s b) l names) ∙ free in absurd (cc)
      by_order false false is names rest = rw is (rw names (rest (rw names at free)))
  with_there o (storage n f i l) free = by_order (is_lt (name_cmp letters (name_of o) n)) (is_same_name letters (name_of o) n) refl refl (with_there o l)
    where
      by_order : (first same : Bool) → is_lt (name_cmp letters (name_of o) n) ≡ first → is_same_name letters (name_of o) n ≡ same → (child letters l (name_of o) ≡ None → child letters (with_child letters o l) (name_of o) ≡ Some o)
          → child letters (with_child letters o (storage n f i l)) (name_of o) ≡ Some o
      by_order true same is names rest = rw is (child_here letters (name_of o) o (storage n f i l) (same_self (name_of o)))
      by_order false true is names rest = let taken : Some (a_storage n f i) ≡ None = sym (child_here letters (name_of o) (a_storage n f i) l names) ∙ free in absurd (cc)
      by_order false false is names rest = rw is (rw names (rest (rw names at free)))

  -- one that was taken out
  module _ (wanted : List ℕ) where
    apart : (x n : List ℕ) → is_same_name letters wanted x ≡ false → is_same_name letters wanted n ≡ true → is_same_name letters x n ≡ false
    apart x n differ same = sym (same_of wanted n x same) ∙ same_turned x wanted ∙ differ

    without_other : (x : List ℕ) → is_same_name letters wanted x ≡ false → (c : Content) → child letters (without_child letters wanted c) x ≡ child letters c x
    without_other x differ nothing = refl
    without_other x differ (stream n s b l) = by_name (is_same_name letters wanted n) refl (without_other x differ l)
      where
        by_name : (t : Bool) → is_same_name letters wanted n ≡ t → child letters (without_child letters wanted l) x ≡ child letters l x → child letters (without_child letters wanted (stream n s b l)) x ≡ child letters (stream n s b l) x
        by_name true same rest = rw same (sym (child_before (a_stream n s b) l x (apart x n differ same)))
        by_name false other rest = rw other (ap (λ y. if is_same_name letters x n then Some (a_stream n s b) else y) rest)
    without_other x differ (storage n f i l) = by_name (is_same_name letters wanted n) refl (without_other x differ l)
      where
        by_name : (t : Bool) → is_same_name letters wanted n ≡ t → child letters (without_child letters wanted l) x ≡ child letters l x → child letters (without_child letters wanted (storage n f i l)) x ≡ child letters (storage n f i l) x
        by_name true same rest = rw same (sym (child_before (a_storage n f i) l x (apart x n differ same)))
        by_name false other rest = rw other (ap (λ y. if is_same_name letters x n then Some (a_storage n f i) else y) rest)

    -- those behind one of the name have others
    none_behind : (n : List ℕ) (c : Content) → is_same_name letters wanted n ≡ true → AllByRecursion (λ y. name_cmp letters n y ≡ Less) (child_names c) → child letters c wanted ≡ None
    none_behind n c same above =
        child_none letters wanted c (others_above letters wanted c
        (all_map (λ y. name_cmp letters n y ≡ Less) (λ y. name_cmp letters wanted y ≡ Less) (child_names c)
        (λ y less. (name_cmp_total letters).congr wanted n y (eq_equal (name_cmp letters wanted n) same) ∙ less) above))

    without_none : (c : Content) → IsStrictlySortedBy (name_cmp letters) (child_names c) → child letters (without_child letters wanted c) wanted ≡ None
    without_none nothing rising = refl
    without_none (stream n s b l) rising = by_name (is_same_name letters wanted n) refl (without_none l (sorted_parts (name_cmp letters) (n ∷ []) (child_names l) rising).1)
      where
        by_name : (t : Bool) → is_same_name letters wanted n ≡ t → child letters (without_child letters wanted l) wanted ≡ None → child letters (without_child letters wanted (stream n s b l)) wanted ≡ None
        by_name true same rest = rw same (none_behind n l same (sorted_around (name_cmp letters) [] n (child_names l) rising).1)
        by_name false other rest = rw other (rw other rest)
    without_none (storage n f i l) rising = by_name (is_same_name letters wanted n) refl (without_none l (sorted_parts (name_cmp letters) (n ∷ []) (child_names l) rising).1)
      where
        by_name : (t : Bool) → is_same_name letters wanted n ≡ t → child letters (without_child letters wanted l) wanted ≡ None → child letters (without_child letters wanted (storage n f i l)) wanted ≡ None
        by_name true same rest = rw same (none_behind n l same (sorted_around (name_cmp letters) [] n (child_names l) rising).1)
        by_name false other rest = rw other (rw other rest)

    -- one that was changed
    module _ (change : Object → Object) (named : (o : Object) → name_of (change o) ≡ name_of o) where
      changed_other : (x : List ℕ) → is_same_name letters wanted x ≡ false → (c : Content) → child letters (with_changed letters wanted change c) x ≡ child letters c x
      changed_other x differ nothing = refl
      changed_other x differ (stream n s b l) = by_name (is_same_name letters wanted n) refl (changed_other x differ l)
        where
          by_name : (t : Bool) → is_same_name letters wanted n ≡ t → child letters (with_changed letters wanted change l) x ≡ child letters l x → child letters (with_changed letters wanted change (stream n s b l)) x ≡ child letters (stream n s b l) x
          by_name true same rest =
              let away = apart x n differ same in
              rw same (child_before (change (a_stream n s b)) l x (ap (is_same_name letters x) (named (a_stream n s b)) ∙ away) ∙ sym (child_before (a_stream n s b) l x away))
          by_name false other rest = rw other (ap (λ y. if is_same_name letters x n then Some (a_stream n s b) else y) rest)
      changed_other x differ (storage n f i l) = by_name (is_same_name letters wanted n) refl (changed_other x differ l)
        where
          by_name : (t : Bool) → is_same_name letters wanted n ≡ t → child letters (with_changed letters wanted change l) x ≡ child letters l x → child letters (with_changed letters wanted change (storage n f i l)) x ≡ child letters (storage n f i l) x
          by_name true same rest =
              let away = apart x n differ same in
              rw same (child_before (change (a_storage n f i)) l x (ap (is_same_name letters x) (named (a_storage n f i)) ∙ away) ∙ sym (child_before (a_storage n f i) l x away))
          by_name false other rest = rw other (ap (λ y. if is_same_name letters x n then Some (a_storage n f i) else y) rest)

      changed_there : (c : Content) → child letters (with_changed letters wanted change c) wanted ≡ option_map change (child letters c wanted)
      changed_there nothing = refl
      changed_there (stream n s b l) = by_name (is_same_name letters wanted n) refl (changed_there l)
        where
          by_name : (t : Bool) → is_same_name letters wanted n ≡ t → child letters (with_changed letters wanted change l) wanted ≡ option_map change (child letters l wanted)
              → child letters (with_changed letters wanted change (stream n s b l)) wanted ≡ option_map change (child letters (stream n s b l) wanted)
          by_name true same rest = rw same (child_here letters wanted (change (a_stream n s b)) l (ap (is_same_name letters wanted) (named (a_stream n s b)) ∙ same))
          by_name false other rest = rw other (rw other rest)
      changed_there (storage n f i l) = by_name (is_same_name letters wanted n) refl (changed_there l)
        where
          by_name : (t : Bool) → is_same_name letters wanted n ≡ t → child letters (with_changed letters wanted change l) wanted ≡ option_map change (child letters l wanted)
              → child letters (with_changed letters wanted change (storage n f i l)) wanted ≡ option_map change (child letters (storage n f i l) wanted)
          by_name true same rest = rw same (child_here letters wanted (change (a_storage n f i)) l (ap (is_same_name letters wanted) (named (a_storage n f i)) ∙ same))
          by_name false other rest = rw other (rw other rest)

      changed_at : (x : List ℕ) → is_same_name letters wanted x ≡ true → (c : Content) → child letters (with_changed letters wanted change c) x ≡ option_map change (child letters c x)
      changed_at x same c = sym (child_same (with_changed letters wanted change c) wanted x same) ∙ changed_there c ∙ ap (option_map change) (child_same c wanted x same)

  -- a change below an object, where `base` are the names that the change itself goes over
  module _ (change : Object → Object) (named : (o : Object) → name_of (change o) ≡ name_of o) where
    abbrev deeper : Path → Object → Object
    deeper = changed_below letters change

    deeper_named : (names : Path) (o : Object) → name_of (deeper names o) ≡ name_of o
    deeper_named [] o = named o
    deeper_named (name ∷ names) (a_stream n s b) = refl
    deeper_named (name ∷ names) (a_storage n f i) = refl

    module _ (base : Path) where
      abbrev IsAway : Object → Object → Path → Path → Type 0
      IsAway new old path other = is_front letters path other ≡ false → is_front letters other path ≡ false → object_from letters (Some new) other ≡ object_from letters (Some old) other

      away : ((other : Path) (o : Object) → IsAway (change o) o base other) → (up other : Path) (o : Object) → IsAway (deeper up o) o (up ++ base) other
      away at [] other o = at other o
      away at (n ∷ ns) [] o = λ front back. absurd (cc)
      away at (n ∷ ns) (m ∷ ms) (a_stream x s b) = λ front back. refl
      away at (n ∷ ns) (m ∷ ms) (a_storage x f i) = λ front back. by_name (is_same_name letters n m) refl front back (away at ns ms)
        where
          by_name : (t : Bool) → is_same_name letters n m ≡ t → is_front letters (n ∷ (ns ++ base)) (m ∷ ms) ≡ false → is_front letters (m ∷ ms) (n ∷ (ns ++ base)) ≡ false
              → ((o : Object) → IsAway (deeper ns o) o (ns ++ base) ms)
              → object_from letters (child letters (with_changed letters n (deeper ns) i) m) ms ≡ object_from letters (child letters i m) ms
          by_name false differ front back rest = ap (λ c. object_from letters c ms) (changed_other n (deeper ns) (deeper_named ns) m differ i)
          by_name true same front back rest =
              let turned : is_same_name letters m n ≡ true = same_turned m n ∙ same in
              ap (λ c. object_from letters c ms) (changed_at n (deeper ns) (deeper_named ns) m same i) ∙ by_child (child letters i m) (rw same at front) (rw turned at back)
            where
              by_child : (c : Option Object) → is_front letters (ns ++ base) ms ≡ false → is_front letters ms (ns ++ base) ≡ false → object_from letters (option_map (deeper ns) c) ms ≡ object_from letters c ms
              by_child None front' back' = refl
              by_child (Some y) front' back' = rest y front' back'

      abbrev IsAbove : Object → Object → Path → Path → Type 0
      IsAbove new old path other = is_front letters path other ≡ false → option_map alone (object_from letters (Some new) other) ≡ option_map alone (object_from letters (Some old) other)

      above : ((other : Path) (o : Object) → IsAbove (change o) o base other) → (up other : Path) (o : Object) → IsAbove (deeper up o) o (up ++ base) other
      above at [] other o = at other o
      above at (n ∷ ns) [] (a_stream x s b) = λ front. refl
      above at (n ∷ ns) [] (a_storage x f i) = λ front. refl
      above at (n ∷ ns) (m ∷ ms) (a_stream x s b) = λ front. refl
      above at (n ∷ ns) (m ∷ ms) (a_storage x f i) = λ front. by_name (is_same_name letters n m) refl front (above at ns ms)
        where
          by_name : (t : Bool) → is_same_name letters n m ≡ t → is_front letters (n ∷ (ns ++ base)) (m ∷ ms) ≡ false
              → ((o : Object) → IsAbove (deeper ns o) o (ns ++ base) ms)
              → option_map alone (object_from letters (child letters (with_changed letters n (deeper ns) i) m) ms) ≡ option_map alone (object_from letters (child letters i m) ms)
          by_name false differ front rest = ap (λ c. option_map alone (object_from letters c ms)) (changed_other n (deeper ns) (deeper_named ns) m differ i)
          by_name true same front rest =
              ap (λ c. option_map alone (object_from letters c ms)) (changed_at n (deeper ns) (deeper_named ns) m same i) ∙ by_child (child letters i m) (rw same at front)
            where
              by_child : (c : Option Object) → is_front letters (ns ++ base) ms ≡ false → option_map alone (object_from letters (option_map (deeper ns) c) ms) ≡ option_map alone (object_from letters c ms)
              by_child None front' = refl
              by_child (Some y) front' = rest y front'

    -- the object at the place, and those below it, are those of the changed one
    found : (up other : Path) (o x : Object) → object_from letters (Some o) up ≡ Some x → (rest : Path) → is_front letters (up ++ rest) other ≡ true
        → object_from letters (Some (deeper up o)) other ≡ object_from letters (Some (change x)) (drop (length up) other)
    found [] other o x at rest front = let is : o ≡ x = cc in ap (λ y. object_from letters (Some (change y)) other) is
    found (n ∷ ns) [] o x at rest front = absurd (cc)
    found (n ∷ ns) (m ∷ ms) (a_stream z s b) x at rest front = let never : None ≡ Some x = sym (nothing_from ns) ∙ at in absurd (cc)
    found (n ∷ ns) (m ∷ ms) (a_storage z f i) x at rest front =
        let both = both_true (is_same_name letters n m) (is_front letters (ns ++ rest) ms) front in
        ap (λ c. object_from letters c ms) (changed_at n (deeper ns) (deeper_named ns) m both.0 i)
        ∙ by_child (child letters i m) (ap (λ c. object_from letters c ns) (sym (child_same i n m both.0)) ∙ at) both.1 (found ns ms)
      where
        by_child : (c : Option Object) → object_from letters c ns ≡ Some x → is_front letters (ns ++ rest) ms ≡ true
            → ((o y : Object) → object_from letters (Some o) ns ≡ Some y → (more : Path) → is_front letters (ns ++ more) ms ≡ true → object_from letters (Some (deeper ns o)) ms ≡ object_from letters (Some (change y)) (drop (length ns) ms))
            → object_from letters (option_map (deeper ns) c) ms ≡ object_from letters (Some (change x)) (drop (length ns) ms)
        by_child None at' front' later = let never : None ≡ Some x = sym (nothing_from ns) ∙ at' in absurd (cc)
        by_child (Some y) at' front' later = later y x at' rest front'

  no_child : (c : Option Object) → object_from letters c [] ≡ None → c ≡ None
  no_child None is = refl
  no_child (Some x) is = absurd (cc)

  drop_all : (path : Path) → drop (length path) path ≡ []
  drop_all [] = refl
  drop_all (name ∷ names) = drop_all names

  -- a change of what the storage holds in which a name is
  module _ (h : Content → Content) where
    holding_named : (o : Object) → name_of (holding h o) ≡ name_of o
    holding_named (a_stream n s b) = refl
    holding_named (a_storage n f i) = refl

    root_of_inner : (up : Path) (tree : Tree) → root_object (tree_of tree (changed_below letters (holding h) up (root_object tree))) ≡ changed_below letters (holding h) up (root_object tree)
    root_of_inner [] tree = refl
    root_of_inner (name ∷ names) tree = refl

    module _ (wanted : List ℕ) (spared : (x : List ℕ) → is_same_name letters wanted x ≡ false → (c : Content) → child letters (h c) x ≡ child letters c x) where
      base_away : (other : Path) (o : Object) → is_front letters (wanted ∷ []) other ≡ false → is_front letters other (wanted ∷ []) ≡ false
          → object_from letters (Some (holding h o)) other ≡ object_from letters (Some o) other
      base_away [] o front back = absurd (cc)
      base_away (m ∷ ms) (a_stream n s b) front back = refl
      base_away (m ∷ ms) (a_storage n f i) front back = by_name (is_same_name letters wanted m) refl
        where
          by_name : (t : Bool) → is_same_name letters wanted m ≡ t → object_from letters (child letters (h i) m) ms ≡ object_from letters (child letters i m) ms
          by_name false differ = ap (λ c. object_from letters c ms) (spared m differ i)
          by_name true same = let never : true ≡ false = rw same at front in absurd (cc)

      base_above : (other : Path) (o : Object) → is_front letters (wanted ∷ []) other ≡ false
          → option_map alone (object_from letters (Some (holding h o)) other) ≡ option_map alone (object_from letters (Some o) other)
      base_above [] (a_stream n s b) front = refl
      base_above [] (a_storage n f i) front = refl
      base_above (m ∷ ms) (a_stream n s b) front = refl
      base_above (m ∷ ms) (a_storage n f i) front = by_name (is_same_name letters wanted m) refl
        where
          by_name : (t : Bool) → is_same_name letters wanted m ≡ t → option_map alone (object_from letters (child letters (h i) m) ms) ≡ option_map alone (object_from letters (child letters i m) ms)
          by_name false differ = ap (λ c. option_map alone (object_from letters c ms)) (spared m differ i)
          by_name true same = let never : true ≡ false = rw same at front in absurd (cc)

      keeps_others : (up : Path) (tree : Tree) → KeepsOthers letters (path_to up wanted) tree (changed letters (holding h) up tree)
      keeps_others up tree = record {
        others = λ other front back. ap (λ o. object_from letters (Some o) other) (root_of_inner up tree)
            ∙ away (holding h) holding_named (wanted ∷ []) base_away up other (root_object tree) front back;
        above = λ other front. ap (λ o. option_map alone (object_from letters (Some o) other)) (root_of_inner up tree)
            ∙ above (holding h) holding_named (wanted ∷ []) base_above up other (root_object tree) front;
      }

  -- where a path is the front of another, that one goes on below it
  goes_on : (up other : Path) (wanted : List ℕ) → is_front letters (path_to up wanted) other ≡ true
      → (m : List ℕ) × (drop (length up) other ≡ m ∷ drop (length (path_to up wanted)) other) × (is_same_name letters wanted m ≡ true)
  goes_on [] [] wanted front = absurd (cc)
  goes_on [] (m ∷ ms) wanted front = (m, refl, (both_true (is_same_name letters wanted m) true front).0)
  goes_on (n ∷ ns) [] wanted front = absurd (cc)
  goes_on (n ∷ ns) (m ∷ ms) wanted front = goes_on ns ms wanted ((both_true (is_same_name letters n m) (is_front letters (path_to ns wanted) ms) front).1)

  -- LAW: what was added stands there
  module _ (tree : Tree) (object : Object) (path : Path) (it : HasFreePlace letters tree object path) where
    up_is : path_to (parent_of path) (last_of path) ≡ path
    up_is = path_is path it.below_root

    alone_in : child letters it.inside (name_of object) ≡ None
    alone_in = ap (child letters it.inside) (sym it.named) ∙ no_child (child letters it.inside (last_of path))
        (ap (λ o. object_from letters o (last_of path ∷ [])) (sym it.storage) ∙ sym (object_from_last letters (Some (root_object tree)) (parent_of path) (last_of path))
        ∙ ap (object_at letters tree) up_is ∙ it.free)

    stands_below : (other : Path) → is_front letters path other ≡ true → object_at letters (added letters object path tree) other ≡ object_from letters (Some object) (drop (length path) other)
    stands_below other front =
        let front' : is_front letters (path_to (parent_of path) (last_of path)) other ≡ true = ap (λ p. is_front letters p other) up_is ∙ front in
        let on = goes_on (parent_of path) other (last_of path) front' in
        ap (λ o. object_from letters (Some o) other) (root_of_inner (with_child letters object) (parent_of path) tree)
        ∙ found (holding (with_child letters object)) (holding_named (with_child letters object)) (parent_of path) other (root_object tree) (a_storage it.name it.facts it.inside) it.storage (last_of path ∷ []) front'
        ∙ ap (object_from letters (Some (a_storage it.name it.facts (with_child letters object it.inside)))) on.1
        ∙ ap (λ c. object_from letters c (drop (length (path_to (parent_of path) (last_of path))) other))
        (sym (child_same (with_child letters object it.inside) (name_of object) on.0 (ap (λ n. is_same_name letters n on.0) (sym it.named) ∙ on.2)) ∙ with_there object it.inside alone_in)
        ∙ ap (λ p. object_from letters (Some object) (drop (length p) other)) up_is

    pub added_stands : IsObjectListed letters (added letters object path tree) path object
    added_stands = record { there = stands_below path (front_self path) ∙ ap (object_from letters (Some object)) (drop_all path); below = stands_below }

    -- LAW: and all others are as before
    pub added_keeps : KeepsOthers letters path tree (added letters object path tree)
    added_keeps =
        subst (λ p. KeepsOthers letters p tree (added letters object path tree)) up_is
        (keeps_others (with_child letters object) (last_of path) (λ x differ c. with_other object x (ap (λ n. is_same_name letters n x) (sym it.named) ∙ differ) c) (parent_of path) tree)

  child_ordered : (c : Content) (m : List ℕ) (y : Object) → IsOrderedInside letters c → child letters c m ≡ Some y → IsOrderedObject letters y
  child_ordered nothing m y ordered at = absurd (cc)
  child_ordered (stream n s b l) m y ordered at = by_name (is_same_name letters m n) refl (child_ordered l m y ordered)
    where
      by_name : (t : Bool) → is_same_name letters m n ≡ t → (child letters l m ≡ Some y → IsOrderedObject letters y) → IsOrderedObject letters y
      by_name true same rest =
          let here : Some (a_stream n s b) ≡ Some y = sym (child_here letters m (a_stream n s b) l same) ∙ at in
          let is : a_stream n s b ≡ y = cc in subst (IsOrderedObject letters) is tt
      by_name false differ rest = rest (rw differ at at)
  child_ordered (storage n f i l) m y ordered at = by_name (is_same_name letters m n) refl (child_ordered l m y ordered.2)
    where
      by_name : (t : Bool) → is_same_name letters m n ≡ t → (child letters l m ≡ Some y → IsOrderedObject letters y) → IsOrderedObject letters y
      by_name true same rest =
          let here : Some (a_storage n f i) ≡ Some y = sym (child_here letters m (a_storage n f i) l same) ∙ at in
          let is : a_storage n f i ≡ y = cc in subst (IsOrderedObject letters) is (ordered.0, ordered.1)
      by_name false differ rest = rest (rw differ at at)

  -- what was removed is gone, and what it held
  module _ (wanted : List ℕ) where
    abbrev less : Path → Object → Object
    less = changed_below letters (holding (without_child letters wanted))

    gone : (up other : Path) (o : Object) → IsOrderedObject letters o → is_front letters (path_to up wanted) other ≡ true → object_from letters (Some (less up o)) other ≡ None
    gone [] [] o ordered front = absurd (cc)
    gone [] (m ∷ ms) (a_stream n s b) ordered front = nothing_from ms
    gone [] (m ∷ ms) (a_storage n f i) ordered front =
        let same = (both_true (is_same_name letters wanted m) true front).0 in
        ap (λ c. object_from letters c ms) (sym (child_same (without_child letters wanted i) wanted m same) ∙ without_none wanted i ordered.0) ∙ nothing_from ms
    gone (n ∷ ns) [] o ordered front = absurd (cc)
    gone (n ∷ ns) (m ∷ ms) (a_stream x s b) ordered front = nothing_from ms
    gone (n ∷ ns) (m ∷ ms) (a_storage x f i) ordered front =
        let both = both_true (is_same_name letters n m) (is_front letters (path_to ns wanted) ms) front in
        ap (λ c. object_from letters c ms) (changed_at n (less ns) (deeper_named (holding (without_child letters wanted)) (holding_named (without_child letters wanted)) ns) m both.0 i)
        ∙ by_child (child letters i m) refl both.1 (gone ns ms)
      where
        by_child : (c : Option Object) → child letters i m ≡ c → is_front letters (path_to ns wanted) ms ≡ true
            → ((y : Object) → IsOrderedObject letters y → is_front letters (path_to ns wanted) ms ≡ true → object_from letters (Some (less ns y)) ms ≡ None)
            → object_from letters (option_map (less ns) c) ms ≡ None
        by_child None at front' rest = nothing_from ms
        by_child (Some y) at front' rest = rest y (child_ordered i m y ordered.1 at) front'

  -- LAW: the same of the tree
  pub removed_gone : (tree : Tree) (path : Path) → 0 < length path → IsOrdered letters tree.content → NoneStandsAt letters (removed letters path tree) path
  removed_gone tree [] some ordered = absurd (omega (arith, some))
  removed_gone tree (name ∷ names) some ordered = record { there = below (name ∷ names) (front_self (name ∷ names)); below = below }
    where
      below : (other : Path) → is_front letters (name ∷ names) other ≡ true → object_at letters (removed letters (name ∷ names) tree) other ≡ None
      below other front =
          ap (λ o. object_from letters (Some o) other) (root_of_inner (without_child letters (last_of (name ∷ names))) (parent_of (name ∷ names)) tree)
          ∙ gone (last_of (name ∷ names)) (parent_of (name ∷ names)) other (root_object tree) ordered (ap (λ p. is_front letters p other) (path_is (name ∷ names) some) ∙ front)

  pub removed_keeps : (tree : Tree) (path : Path) → 0 < length path → KeepsOthers letters path tree (removed letters path tree)
  removed_keeps tree [] some = absurd (omega (arith, some))
  removed_keeps tree (name ∷ names) some =
      subst (λ p. KeepsOthers letters p tree (removed letters (name ∷ names) tree)) (path_is (name ∷ names) some)
      (keeps_others (without_child letters (last_of (name ∷ names))) (last_of (name ∷ names)) (without_other (last_of (name ∷ names))) (parent_of (name ∷ names)) tree)

  -- LAW: what was changed is there, and all others are as before
  module _ (change : Object → Object) (named : (o : Object) → name_of (change o) ≡ name_of o) (tree : Tree) where
    pub changed_stands : (path : Path) (object : Object) → 0 < length path → object_at letters tree path ≡ Some object → object_at letters (changed letters change path tree) path ≡ Some (change object)
    changed_stands [] object some at = absurd (omega (arith, some))
    changed_stands (name ∷ names) object some at =
        found change named (name ∷ names) (name ∷ names) (root_object tree) object at [] (ap (λ p. is_front letters p (name ∷ names)) (append-nil (name ∷ names)) ∙ front_self (name ∷ names))
        ∙ ap (object_from letters (Some (change object))) (drop_all (name ∷ names))

    pub changed_keeps : (path : Path) → KeepsOthers letters path tree (changed letters change path tree)
    changed_keeps [] = record { others = λ other front back. absurd (cc); above = λ other front. absurd (cc) }
    changed_keeps (name ∷ names) = record {
      others = λ other front back. away change named [] (λ p o never back'. absurd (cc)) (name ∷ names) other (root_object tree)
          (ap (λ p. is_front letters p other) (append-nil (name ∷ names)) ∙ front) (ap (is_front letters other) (append-nil (name ∷ names)) ∙ back);
      above = λ other front. above change named [] (λ p o never. absurd (cc)) (name ∷ names) other (root_object tree)
          (ap (λ p. is_front letters p other) (append-nil (name ∷ names)) ∙ front);
    }
