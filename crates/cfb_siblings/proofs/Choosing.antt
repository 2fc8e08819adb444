-- What stands at a place among siblings that hold a content.
use Rattle.std.proofs.Common.{◌≡◌, ℕ, ◌≤◌, true, false, List, [], ◌∷◌, ◌++◌, refl, sym, ◌∙◌, ap, subst, append_assoc, append-nil, arith}
use Rattle.std.specs.Prelude.{slice_get, Some}
use Rattle.std.specs.List.{AllByRecursion}
use Rattle.std.specs.List.Sorted.{IsStrictlySortedBy}
use Rattle.std.specs.Ordering.{is_eq}
use Rattle.std.specs.declared.cmp.Ordering.{Ordering}
use Rattle.std.specs.declared.cmp.Ordering.TheVariants.{Less, Equal, Greater}
use Rattle.cfb_tree.specs.Names.{CaseTable, name_cmp}
use Rattle.cfb_tree.specs.Tree.{Content, nothing, stream, storage, child_names}
use Rattle.cfb_tree.specs.Directory.{Entry, Siblings, none, some, Holds, HasName, no_entry, greatest_entry}
use Rattle.cfb_tree.specs.Objects.{before, name_of, is_same_name, child, joined_contents}
use Rattle.cfb_tree.proofs.NameOrder.{name_cmp_total}
use Rattle.cfb_tree.proofs.OneContent.{name_unique, siblings_unique, Some_same}
use Rattle.cfb_siblings.specs.declared.links.Link.{Link}
use Rattle.cfb_siblings.specs.Places.{IsEntryNamed, Hangs, first, to_left, to_right}
use Rattle.cfb_siblings.proofs.Records.{Gap, Chosen, Found}
use Rattle.cfb_siblings.proofs.Lists.{all_map, first_same, sorted_around}
use Rattle.cfb_siblings.proofs.Joining.{names_joined, names_before, halves, headed}
use Rattle.cfb_siblings.proofs.Naming.{less_turned, child_past, child_here}
use Rattle.cfb_siblings.proofs.Searching.{object_named, no_siblings}

-- the siblings of an entry, on both sides
pub record Sides (directory : List Entry) (id : ℕ) (e : Entry) (here : List ℕ) : Type 0 where
  pub lefts : List ℕ
  pub rights : List ℕ
  pub on_left : Siblings directory e.left lefts
  pub on_right : Siblings directory e.right rights
  pub here_is : here ≡ lefts ++ id ∷ rights

pub sides : (directory : List Entry) (id : ℕ) (e : Entry) (here : List ℕ) → id ≤ greatest_entry → slice_get directory id ≡ Some e
    → Siblings directory id here → Sides directory id e here
sides directory id e here fits found (none is empty) = absurd (omega (arith, is, fits))
sides directory id e here fits found (some f front back fits' found' left right whole) =
    let same : f ≡ e = Some_same (sym found' ∙ found) in
    record {
      lefts = front;
      rights = back;
      on_left = subst (λ y. Siblings directory y.left front) same left;
      on_right = subst (λ y. Siblings directory y.right back) same right;
      here_is = whole;
    }

-- what hangs where a walk ends, among all siblings
pub record Hanging (directory : List Entry) (at : ℕ) (front back ids : List ℕ) : Type 0 where
  pub here : List ℕ
  pub siblings : Siblings directory at here
  pub ids_are : ids ≡ front ++ (here ++ back)

pub what_hangs : (directory : List Entry) (owner root : ℕ) (link : Link) (at : ℕ) (front back ids : List ℕ)
    → Hangs directory owner root link at front back → Siblings directory root ids → Hanging directory at front back ids
what_hangs directory owner root link at front back ids (first link_is at_is front_is back_is) h = record {
  here = ids;
  siblings = rw at_is h;
  ids_are = rw (front_is, back_is, append-nil) refl;
}
what_hangs directory owner root link at front back ids (to_left outer id e after rest walk fits found right link_is at_is back_is) h =
    let above = what_hangs directory owner root outer id front rest ids walk h in
    let both = sides directory id e above.here fits found above.siblings in
    let rights_are : both.rights ≡ after = siblings_unique both.on_right right in
    record {
      here = both.lefts;
      siblings = rw at_is both.on_left;
      ids_are = above.ids_are ∙ ap (λ xs. front ++ (xs ++ rest)) (both.here_is ∙ ap (λ ys. both.lefts ++ id ∷ ys) rights_are)
          ∙ ap (λ ys. front ++ ys) (append_assoc both.lefts (id ∷ after) rest) ∙ ap (λ ys. front ++ (both.lefts ++ ys)) (sym back_is);
    }
what_hangs directory owner root link at front back ids (to_right outer id e before rest walk fits found left link_is at_is front_is) h =
    let above = what_hangs directory owner root outer id rest back ids walk h in
    let both = sides directory id e above.here fits found above.siblings in
    let lefts_are : both.lefts ≡ before = siblings_unique both.on_left left in
    record {
      here = both.rights;
      siblings = rw at_is both.on_right;
      ids_are = above.ids_are ∙ ap (λ xs. rest ++ (xs ++ back)) (both.here_is ∙ ap (λ ys. ys ++ id ∷ both.rights) lefts_are)
          ∙ regroup rest before id both.rights back front front_is;
    }
  where
    regroup : (rest before : List ℕ) (id : ℕ) (here back front : List ℕ) → front ≡ rest ++ (before ++ id ∷ [])
        → rest ++ ((before ++ id ∷ here) ++ back) ≡ front ++ (here ++ back)
    regroup rest before id here back front is = rw is (simp append_assoc refl)

module _ (directory : List Entry) (Reads : Entry → List ℕ → Type 0) (letters : CaseTable) (wanted : List ℕ) where
  pub order_is : (order : Ordering) (id : ℕ) (e : Entry) (name : List ℕ) → IsEntryNamed letters directory wanted order id
      → slice_get directory id ≡ Some e → HasName e name → name_cmp letters wanted name ≡ order
  order_is order id e name it found named =
      let is : it.entry ≡ e = Some_same (sym it.found ∙ found) in
      let names : name ≡ it.name = name_unique e name it.name named (subst (λ y. HasName y it.name) is it.named) in
      ap (name_cmp letters wanted) names ∙ it.compared

  other_name : (name : List ℕ) → name_cmp letters wanted name ≡ Equal → is_same_name letters wanted name ≡ false → ⊥
  other_name name same other = let never : true ≡ false = sym (ap is_eq same) ∙ other in absurd (cc)

  -- the names of entries are those of what they hold
  pub names_in_order : (order : Ordering) (c : Content) (ids all : List ℕ) → Holds directory Reads ids c all
      → AllByRecursion (IsEntryNamed letters directory wanted order) ids → AllByRecursion (λ name. name_cmp letters wanted name ≡ order) (child_names c)
  names_in_order order nothing ids all h k = tt
  names_in_order order (stream n b x l) ids all (e, id, others, rest, is, all_is, at, reads, later) k =
      let here = subst (AllByRecursion (IsEntryNamed letters directory wanted order)) is k in
      (order_is order id e n here.0 at.found at.named, names_in_order order l others rest later here.1)
  names_in_order order (storage n f i l) ids all (e, id, others, children, within, rest, is, all_is, at, siblings, inside, later) k =
      let here = subst (AllByRecursion (IsEntryNamed letters directory wanted order)) is k in
      (order_is order id e n here.0 at.found at.named, names_in_order order l others rest later here.1)

  pub entries_in_order : (order : Ordering) (c : Content) (ids all : List ℕ) → Holds directory Reads ids c all
      → AllByRecursion (λ name. name_cmp letters wanted name ≡ order) (child_names c) → AllByRecursion (IsEntryNamed letters directory wanted order) ids
  entries_in_order order nothing ids all (is, empty) k = subst (AllByRecursion (IsEntryNamed letters directory wanted order)) (sym is) tt
  entries_in_order order (stream n b x l) ids all (e, id, others, rest, is, all_is, at, reads, later) k =
      subst (AllByRecursion (IsEntryNamed letters directory wanted order)) (sym is) (
        record { entry = e; found = at.found; name = n; named = at.named; compared = k.0 },
        entries_in_order order l others rest later k.1,
      )
  entries_in_order order (storage n f i l) ids all (e, id, others, children, within, rest, is, all_is, at, siblings, inside, later) k =
      subst (AllByRecursion (IsEntryNamed letters directory wanted order)) (sym is) (
        record { entry = e; found = at.found; name = n; named = at.named; compared = k.0 },
        entries_in_order order l others rest later k.1,
      )

  -- among entries that hold other names none has the wanted one
  pub unnamed : (c : Content) (ids all : List ℕ) → Holds directory Reads ids c all
      → AllByRecursion (λ name. is_same_name letters wanted name ≡ false) (child_names c) → AllByRecursion (λ id. IsEntryNamed letters directory wanted Equal id → ⊥) ids
  unnamed nothing ids all (is, empty) k = subst (AllByRecursion (λ id. IsEntryNamed letters directory wanted Equal id → ⊥)) (sym is) tt
  unnamed (stream n b x l) ids all (e, id, others, rest, is, all_is, at, reads, later) k =
      subst (AllByRecursion (λ id. IsEntryNamed letters directory wanted Equal id → ⊥)) (sym is)
      (λ it. other_name n (order_is Equal id e n it at.found at.named) k.0, unnamed l others rest later k.1)
  unnamed (storage n f i l) ids all (e, id, others, children, within, rest, is, all_is, at, siblings, inside, later) k =
      subst (AllByRecursion (λ id. IsEntryNamed letters directory wanted Equal id → ⊥)) (sym is)
      (λ it. other_name n (order_is Equal id e n it at.found at.named) k.0, unnamed l others rest later k.1)

  -- the siblings around a free link
  pub gap_of : (owner root : ℕ) (ids : List ℕ) (c : Content) (all : List ℕ) (link : Link) (front back : List ℕ)
      → Hangs directory owner root link no_entry front back → AllByRecursion (IsEntryNamed letters directory wanted Greater) front
      → AllByRecursion (IsEntryNamed letters directory wanted Less) back
      → Siblings directory root ids → Holds directory Reads ids c all → Gap directory Reads letters wanted owner root ids c all link
  gap_of owner root ids c all link front back hangs before after siblings h =
      let it = what_hangs directory owner root link no_entry front back ids hangs siblings in
      let ids_are : ids ≡ front ++ back =
      it.ids_are ∙ ap (λ xs. front ++ (xs ++ back)) (no_siblings directory Reads no_entry it.here refl it.siblings) in
      let parts = halves directory Reads front back c all (subst (λ xs. Holds directory Reads xs c all) ids_are h) in
      record {
        front = front;
        back = back;
        earlier = parts.first;
        later = parts.second;
        earlier_all = parts.first_all;
        later_all = parts.second_all;
        ids_are = ids_are;
        content_is = parts.content_is;
        all_is = parts.all_is;
        hangs = hangs;
        holds_earlier = parts.holds_first;
        holds_later = parts.holds_second;
        below = names_in_order Greater parts.first front parts.first_all parts.holds_first before;
        above = names_in_order Less parts.second back parts.second_all parts.holds_second after;
      }

  -- an entry of the wanted name among rising siblings
  pub choose : (front : List ℕ) (at : ℕ) (back : List ℕ) (ids : List ℕ) (c : Content) (all : List ℕ) → ids ≡ front ++ at ∷ back
      → Holds directory Reads ids c all → IsStrictlySortedBy (name_cmp letters) (child_names c) → IsEntryNamed letters directory wanted Equal at
      → Chosen directory Reads letters wanted ids c all at
  choose front at back ids c all ids_are h rising it =
      let parts = halves directory Reads front (at ∷ back) c all (subst (λ xs. Holds directory Reads xs c all) ids_are h) in
      let own = headed directory Reads at back parts.second parts.second_all parts.holds_second in
      let content_is : c ≡ joined_contents parts.first (before own.object own.later) =
      parts.content_is ∙ ap (joined_contents parts.first) own.content_is in
      let level : name_cmp letters wanted (name_of own.object) ≡ Equal =
      order_is Equal at it.entry (name_of own.object) it it.found (object_named directory Reads at own.object own.own it.entry own.is_object it.found) in
      let around = sorted_around (name_cmp letters) (child_names parts.first) (name_of own.object) (child_names own.later)
      (subst (IsStrictlySortedBy (name_cmp letters)) (ap child_names content_is ∙ names_joined parts.first (before own.object own.later)
      ∙ ap (λ ns. child_names parts.first ++ ns) (names_before own.object own.later)) rising) in
      record {
        front = front;
        back = back;
        ids_are = ids_are;
        earlier = parts.first;
        object = own.object;
        later = own.later;
        earlier_all = parts.first_all;
        own = own.own;
        later_all = own.rest;
        content_is = content_is;
        all_is = parts.all_is ∙ ap (λ xs. parts.first_all ++ xs) own.all_is;
        holds_earlier = parts.holds_first;
        is_object = own.is_object;
        holds_later = own.holds_later;
        others = all_map (λ n. name_cmp letters n (name_of own.object) ≡ Less) (λ n. is_same_name letters wanted n ≡ false) (child_names parts.first)
            (λ n under. ap is_eq ((name_cmp_total letters).congr wanted (name_of own.object) n level ∙ less_turned letters (name_of own.object) n under)) around.0;
        level = ap is_eq level;
      }

  -- no other has the name
  pub chosen_once : (ids : List ℕ) (c : Content) (all : List ℕ) (at other : ℕ) → Chosen directory Reads letters wanted ids c all at
      → Chosen directory Reads letters wanted ids c all other → IsEntryNamed letters directory wanted Equal at → IsEntryNamed letters directory wanted Equal other → at ≡ other
  chosen_once ids c all at other it that named named' =
      first_same (IsEntryNamed letters directory wanted Equal) it.front at it.back that.front other that.back (sym it.ids_are ∙ that.ids_are) named named'
      (unnamed it.earlier it.front it.earlier_all it.holds_earlier it.others) (unnamed that.earlier that.front that.earlier_all that.holds_earlier that.others)

  -- it is the child of that name
  pub chosen_child : (ids : List ℕ) (c : Content) (all : List ℕ) (at : ℕ) (it : Chosen directory Reads letters wanted ids c all at)
      → child letters c wanted ≡ Some it.object
  chosen_child ids c all at it = ap (λ t. child letters t wanted) it.content_is ∙ child_past letters wanted it.earlier (before it.object it.later) it.others
      ∙ child_here letters wanted it.object it.later it.level

  -- the siblings around an entry to which a link leads
  pub found_of : (owner root : ℕ) (ids : List ℕ) (c : Content) (all : List ℕ) (link : Link) (at : ℕ) (front back : List ℕ)
      → Hangs directory owner root link at front back → at ≤ greatest_entry → (it : IsEntryNamed letters directory wanted Equal at)
      → Siblings directory root ids → Holds directory Reads ids c all → IsStrictlySortedBy (name_cmp letters) (child_names c)
      → Found directory Reads letters wanted owner root ids c all link at it.entry
  unfolding choose
  found_of owner root ids c all link at front back hangs fits it siblings h rising =
      let hanging = what_hangs directory owner root link at front back ids hangs siblings in
      let both = sides directory at it.entry hanging.here fits it.found hanging.siblings in
      let ids_are : ids ≡ (front ++ both.lefts) ++ at ∷ (both.rights ++ back) =
      hanging.ids_are ∙ ap (λ xs. front ++ (xs ++ back)) both.here_is ∙ simp append_assoc refl in
      record {
        found = it.found;
        front = front;
        lefts = both.lefts;
        rights = both.rights;
        back = back;
        ids_are = ids_are;
        hangs = hangs;
        on_left = both.on_left;
        on_right = both.on_right;
        chosen = choose (front ++ both.lefts) at (both.rights ++ back) ids c all ids_are h rising it;
        chosen_front = refl;
        chosen_back = refl;
      }
