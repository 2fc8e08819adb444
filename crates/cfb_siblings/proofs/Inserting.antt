-- A new entry among siblings, at the link where the search for its name ended.
use Rattle.std.proofs.Common.{◌≡◌, ℕ, ◌≤◌, false, List, [], ◌∷◌, ◌++◌, refl, sym, ◌∙◌, ap, subst}
use Rattle.std.specs.Prelude.{slice_get, Some, nat_eq}
use Rattle.std.specs.List.{IsDistinct}
use Rattle.std.specs.List.Sorted.{IsStrictlySortedBy}
use Rattle.std.specs.declared.cmp.Ordering.TheVariants.{Less, Greater}
use Rattle.cfb_tree.specs.Names.{CaseTable, name_cmp}
use Rattle.cfb_tree.specs.Tree.{Content, child_names, IsOrdered, IsOrderedInside}
use Rattle.cfb_tree.specs.Directory.{Entry, Siblings, none, some, Holds, no_entry, greatest_entry}
use Rattle.cfb_tree.specs.Objects.{Object, before, name_of, joined_contents, IsObject}
use Rattle.cfb_tree.specs.Changes.{with_child}
use Rattle.cfb_tree.proofs.NamesRead.{all_append}
use Rattle.cfb_siblings.specs.Changes.{IsApart}
use Rattle.cfb_siblings.proofs.Parts.{ChangesOnly, ReadsByPlace, Relinks, root_after, IsOutside, IsPlaced}
use Rattle.cfb_siblings.specs.declared.links.Link.{Link}
use Rattle.cfb_siblings.specs.declared.links.Link.TheVariants.{Child, Left, Right}
use Rattle.cfb_siblings.specs.Links.{holder}
use Rattle.cfb_siblings.specs.Places.{Hangs}
use Rattle.cfb_siblings.proofs.Records.{Gap}
use Rattle.cfb_siblings.proofs.Lists.{all_map, all_parts, apart_turned, distinct_with, sorted_with}
use Rattle.cfb_siblings.proofs.Frames.{outermost, holds_apart}
use Rattle.cfb_siblings.proofs.Joining.{names_joined, names_before, join, head}
use Rattle.cfb_siblings.proofs.Ordering.{IsOrderedObject, inside_with}
use Rattle.cfb_siblings.proofs.Naming.{with_past, with_here, greater_turned}
use Rattle.cfb_siblings.proofs.Relinking.{hangs_apart, siblings_relinked}
use Rattle.cfb_siblings.proofs.Objects.{siblings_distinct, placed, holds_relinked}

-- a placed holder is apart from an entry that is none of the siblings
holder_apart : (link : Link) (n : ℕ) (ids all : List ℕ) → IsPlaced link ids all → IsOutside link (n ∷ all) → IsApart n ids → nat_eq (holder link) n ≡ false
holder_apart (Child id) n ids all place outside apart = outside.0
holder_apart (Left id) n ids all (xs, ys, is) outside apart =
    apart_turned n id ((all_parts (λ k. nat_eq n k ≡ false) xs (id ∷ ys) (subst (IsApart n) is apart)).1.0)
holder_apart (Right id) n ids all (xs, ys, is) outside apart =
    apart_turned n id ((all_parts (λ k. nat_eq n k ≡ false) xs (id ∷ ys) (subst (IsApart n) is apart)).1.0)

pub outside_tail : (link : Link) (n : ℕ) (all : List ℕ) → IsOutside link (n ∷ all) → IsOutside link all
outside_tail (Child id) n all h = h.1
outside_tail (Left id) n all h = tt
outside_tail (Right id) n all h = tt

-- where one is outside of some, it is with one more in their midst
outside_with : (link : Link) (n : ℕ) (xs ys : List ℕ) → IsOutside link (n ∷ (xs ++ ys)) → IsOutside link (xs ++ n ∷ ys)
outside_with (Child id) n xs ys h =
    let parts = all_parts (λ k. nat_eq id k ≡ false) xs ys h.1 in all_append (λ k. nat_eq id k ≡ false) xs (n ∷ ys) parts.0 (h.0, parts.1)
outside_with (Left id) n xs ys h = tt
outside_with (Right id) n xs ys h = tt

module _ (old mid new : List Entry) (Reads : Entry → List ℕ → Type 0) (by_place : ReadsByPlace Reads) (letters : CaseTable)
    (object : Object) (n : ℕ) (f : Entry) (owner root : ℕ) (ids : List ℕ) (c : Content) (all : List ℕ) (link : Link)
    (it : Gap old Reads letters (name_of object) owner root ids c all link) (once : IsDistinct nat_eq all)
    -- the entry was unused, and is written
    (fresh : IsApart n all) (outside : IsOutside link (n ∷ all)) (fits : n ≤ greatest_entry) (only : ChangesOnly n old mid)
    (found : slice_get mid n ≡ Some f) (no_left : f.left ≡ no_entry) (no_right : f.right ≡ no_entry) (is_object : IsObject mid Reads n object [])
    -- then the link
    (linked : Relinks mid new link n) where
  -- the rules' content
  pub inserted_content : with_child letters object c ≡ joined_contents it.earlier (before object it.later)
  inserted_content = ap (with_child letters object) it.content_is ∙ with_past letters object it.earlier it.later it.below
      ∙ ap (joined_contents it.earlier) (with_here letters object it.later it.above)

  pub inserted_once : IsDistinct nat_eq (it.earlier_all ++ n ∷ it.later_all)
  inserted_once = distinct_with it.earlier_all n it.later_all (subst (IsDistinct nat_eq) it.all_is once) (subst (IsApart n) it.all_is fresh)

  all_apart : IsApart n it.earlier_all × IsApart n it.later_all
  all_apart = all_parts (λ k. nat_eq n k ≡ false) it.earlier_all it.later_all (subst (IsApart n) it.all_is fresh)

  -- the siblings with the new one, before its link
  written : Holds mid Reads (it.front ++ n ∷ it.back) (joined_contents it.earlier (before object it.later)) (it.earlier_all ++ n ∷ it.later_all)
  written = join mid Reads it.front (n ∷ it.back) it.earlier (before object it.later) it.earlier_all (n ∷ it.later_all)
      (holds_apart old mid Reads Reads n it.earlier it.front it.earlier_all only (λ e bytes r. r) all_apart.0 it.holds_earlier)
      (head mid Reads n it.back object it.later [] it.later_all is_object
      (holds_apart old mid Reads Reads n it.later it.back it.later_all only (λ e bytes r. r) all_apart.1 it.holds_later))

  front_apart : IsApart n it.front
  front_apart = outermost old old Reads Reads (λ k. nat_eq n k ≡ false) it.earlier it.front it.earlier_all it.holds_earlier all_apart.0

  back_apart : IsApart n it.back
  back_apart = outermost old old Reads Reads (λ k. nat_eq n k ≡ false) it.later it.back it.later_all it.holds_later all_apart.1

  walk : Hangs mid owner root link no_entry it.front it.back
  walk = hangs_apart old mid n owner root link no_entry it.front it.back only front_apart back_apart it.hangs

  -- LAW: the storage holds the content that the rules give
  pub inserted_holds : Holds new Reads (it.front ++ n ∷ it.back) (with_child letters object c) (it.earlier_all ++ n ∷ it.later_all)
  inserted_holds = subst (λ d. Holds new Reads (it.front ++ n ∷ it.back) d (it.earlier_all ++ n ∷ it.later_all)) (sym inserted_content)
      (holds_relinked mid new Reads by_place link n (it.front ++ n ∷ it.back) (joined_contents it.earlier (before object it.later))
      (it.earlier_all ++ n ∷ it.later_all) linked
      (placed mid owner root link no_entry it.front (n ∷ []) it.back (it.earlier_all ++ n ∷ it.later_all) walk
      (outside_with link n it.earlier_all it.later_all (subst (λ xs. IsOutside link (n ∷ xs)) it.all_is outside)))
      inserted_once written)

  once_before : IsDistinct nat_eq (it.front ++ it.back)
  once_before = subst (IsDistinct nat_eq) it.ids_are
      (siblings_distinct old Reads c ids all (subst (λ xs. Holds old Reads xs c all) (sym it.ids_are)
      (subst (λ d. Holds old Reads (it.front ++ it.back) d all) (sym it.content_is)
      (subst (Holds old Reads (it.front ++ it.back) (joined_contents it.earlier it.later)) (sym it.all_is)
      (join old Reads it.front it.back it.earlier it.later it.earlier_all it.later_all it.holds_earlier it.holds_later)))) once)

  -- it stands there still once the link leads to it
  pub inserted_found : slice_get new n ≡ Some f
  inserted_found =
      let place = placed mid owner root link no_entry it.front [] it.back all walk (outside_tail link n all outside) in
      let apart = holder_apart link n (it.front ++ it.back) all place outside
      (all_append (λ k. nat_eq n k ≡ false) it.front it.back front_apart back_apart) in
      linked.only n f apart found

  -- LAW: its siblings are the old ones, with the new one in its place
  pub inserted_siblings : Siblings new (root_after link root n) (it.front ++ n ∷ it.back)
  inserted_siblings =
      let lone : Siblings new n (n ∷ []) =
      some f [] [] fits inserted_found (none no_left refl) (none no_right refl) refl in
      siblings_relinked mid new owner root link no_entry n it.front it.back (n ∷ []) linked walk once_before lone

  -- LAW: the names still rise
  pub inserted_rising : IsStrictlySortedBy (name_cmp letters) (child_names c) → IsStrictlySortedBy (name_cmp letters) (child_names (with_child letters object c))
  inserted_rising rising =
      subst (IsStrictlySortedBy (name_cmp letters))
      (sym (ap child_names inserted_content ∙ names_joined it.earlier (before object it.later)
      ∙ ap (λ ns. child_names it.earlier ++ ns) (names_before object it.later)))
      (sorted_with (name_cmp letters) (child_names it.earlier) (name_of object) (child_names it.later)
      (subst (IsStrictlySortedBy (name_cmp letters)) (ap child_names it.content_is ∙ names_joined it.earlier it.later) rising)
      (all_map (λ y. name_cmp letters (name_of object) y ≡ Greater) (λ y. name_cmp letters y (name_of object) ≡ Less) (child_names it.earlier)
      (λ y above. greater_turned letters (name_of object) y above) it.below) it.above)

  -- LAW: so do they at all depths
  pub inserted_ordered : IsOrderedObject letters object → IsOrdered letters c → IsOrdered letters (with_child letters object c)
  inserted_ordered inside (rising, ordered) = (
    inserted_rising rising,
    subst (IsOrderedInside letters) (sym inserted_content)
        (inside_with letters it.earlier object it.later inside (subst (IsOrderedInside letters) it.content_is ordered)),
  )
