-- A new child of a storage of a tree.
use Rattle.std.proofs.Common.{◌≡◌, ◌↔◌, ℕ, false, List, [], ◌∷◌, ◌++◌, refl, sym, ◌∙◌, ap, subst}
use Rattle.std.specs.Prelude.{slice_get, slice_set, Some, nat_eq}
use Rattle.std.specs.List.{IsDistinct}
use Rattle.cfb_tree.specs.Names.{CaseTable}
use Rattle.cfb_tree.specs.Paths.{Path}
use Rattle.cfb_tree.specs.Tree.{Tree}
use Rattle.cfb_tree.specs.Directory.{Entry, Siblings, no_entry}
use Rattle.cfb_tree.specs.Objects.{Object, name_of, EntriesHoldTree}
use Rattle.cfb_tree.specs.Changes.{added, changed, holding, with_child}
use Rattle.cfb_tree.proofs.NameOrder.{name_cmp_equal}
use Rattle.cfb_tree.proofs.OneContent.{Some_same}
use Rattle.cfb_siblings.specs.Changes.{IsApart, IsUnused, IsAlone, HoldsOneMore}
use Rattle.cfb_siblings.specs.Links.{holder, relinked}
use Rattle.cfb_siblings.specs.Places.{Hangs, IsChild, IsStorageAt, IsFree, LeadsTo, path_to}
use Rattle.cfb_siblings.specs.declared.links.Link.{Link}
use Rattle.cfb_siblings.specs.declared.links.Link.TheVariants.{Child, Left, Right}
use Rattle.cfb_siblings.proofs.Parts.{ChangesOnly, AllStay, ReadsByPlace, Relinks, root_after, IsOutside, IsPlaced}
use Rattle.cfb_siblings.proofs.Records.{Gap}
use Rattle.cfb_siblings.proofs.Lists.{all_parts, apart_turned, distinct_inside, apart_inside}
use Rattle.cfb_siblings.proofs.Frames.{set_changes_only, set_found, outermost, stay_apart, stay_then}
use Rattle.cfb_siblings.proofs.Relinking.{hangs_apart}
use Rattle.cfb_siblings.proofs.Objects.{placed}
use Rattle.cfb_siblings.proofs.Choosing.{gap_of}
use Rattle.cfb_siblings.proofs.Owners.{IsLinkOf, link_of, relinks, holder_found, Owner, owner_after, held_in, link_inside}
use Rattle.cfb_siblings.proofs.Inserting.{inserted_found, inserted_siblings, inserted_holds, inserted_ordered, outside_tail}
use Rattle.cfb_siblings.proofs.Colors.{black_stays, colored_stays, black_colored, black_relinked, colored_relinked}
use Rattle.cfb_siblings.proofs.Coloring.{colored_more}
use Rattle.cfb_siblings.proofs.Leading.{leads_on, parent_of_path}
use Rattle.cfb_siblings.proofs.Searching.{object_named}
use Rattle.cfb_siblings.proofs.Trees.{HoldsJust, Storing, storing, storing_once}
use Rattle.cfb_siblings.proofs.Unused.{unused_apart, made_object, made_ordered}

-- the storage with the link is outside of what it holds
pub outside_of : (link : Link) (p n : ℕ) (within : List ℕ) → IsLinkOf p link → nat_eq p n ≡ false → IsApart p within → IsOutside link (n ∷ within)
outside_of (Child id) p n within is other apart = subst (λ k. IsApart k (n ∷ within)) (sym is) (other, apart)
outside_of (Left id) p n within is other apart = tt
outside_of (Right id) p n within is other apart = tt

module _ (letters : CaseTable) (Reads : Entry → List ℕ → Type 0) (by_place : ReadsByPlace Reads) (old : List Entry) (tree : Tree) (path : Path) (p : ℕ)
    (link : Link) (n : ℕ) (f : Entry) (object : Object) (h : EntriesHoldTree letters Reads old tree) (s : IsStorageAt letters old path p)
    (free : IsFree letters old p (name_of object) link) (unused : IsUnused old n) (alone : IsAlone Reads f object) where
  abbrev mid : List Entry
  mid = slice_set old n f

  abbrev new : List Entry
  new = relinked link n mid

  st : Storing old Reads Reads letters tree path p h.ids
  st = storing old Reads Reads letters tree h path p s

  gap : Gap old Reads letters (name_of object) p st.entry.child st.children st.inside st.within link
  gap = gap_of old Reads letters (name_of object) p st.entry.child st.children st.inside st.within link free.front free.back
      (subst (λ y. Hangs old p y.child link no_entry free.front free.back) (Some_same (sym free.owner.found ∙ st.found)) free.hangs)
      free.before free.after st.siblings st.holds

  abbrev whole : List ℕ
  whole = st.sooner ++ p ∷ ((gap.earlier_all ++ gap.later_all) ++ st.further)

  whole_is : 0 ∷ h.ids ≡ whole
  whole_is = st.all_is ∙ ap (λ xs. st.sooner ++ p ∷ (xs ++ st.further)) gap.all_is

  once : IsDistinct nat_eq (p ∷ st.within)
  once = storing_once old Reads Reads letters tree path p h.ids st h.once

  p_apart : IsApart p st.within
  unfolding IsDistinct
  p_apart = once.0

  within_once : IsDistinct nat_eq st.within
  unfolding IsDistinct
  within_once = once.1

  -- the new entry is none of the tree's
  n_whole : IsApart n (st.sooner ++ p ∷ (st.within ++ st.further))
  n_whole = subst (IsApart n) st.all_is (unused_apart letters Reads old tree h n unused)

  n_sooner : IsApart n st.sooner
  n_sooner = (all_parts (λ k. nat_eq n k ≡ false) st.sooner (p ∷ (st.within ++ st.further)) n_whole).0

  n_behind : (nat_eq n p ≡ false) × IsApart n st.within × IsApart n st.further
  n_behind =
      let parts = (all_parts (λ k. nat_eq n k ≡ false) st.sooner (p ∷ (st.within ++ st.further)) n_whole).1 in
      let behind = all_parts (λ k. nat_eq n k ≡ false) st.within st.further parts.1 in
      (parts.0, behind.0, behind.1)

  -- what is apart from the entries inside is apart from the siblings
  around : (k : ℕ) → IsApart k st.within → IsApart k gap.front × IsApart k gap.back
  around k apart = all_parts (λ id. nat_eq k id ≡ false) gap.front gap.back (subst (IsApart k) gap.ids_are
      (outermost old old Reads Reads (λ id. nat_eq k id ≡ false) st.inside st.children st.within st.holds apart))

  own_link : IsLinkOf p link
  own_link = link_of old p st.entry.child link no_entry gap.front gap.back gap.hangs ((around p p_apart).0) ((around p p_apart).1)

  only : ChangesOnly n old mid
  only = set_changes_only old n f

  n_found : slice_get mid n ≡ Some f
  n_found = set_found old n unused.entry f unused.found

  p_found : slice_get mid p ≡ Some st.entry
  p_found = only p st.entry n_behind.0 st.found

  linked : Relinks mid new link n
  linked = relinks mid link n (holder_found mid p st.entry.child link no_entry gap.front gap.back
      (hangs_apart old mid n p st.entry.child link no_entry gap.front gap.back only ((around n n_behind.1).0) ((around n n_behind.1).1) gap.hangs)
      (st.entry, p_found))

  outside : IsOutside link (n ∷ st.within)
  outside = outside_of link p n st.within own_link (apart_turned n p n_behind.0) p_apart

  link_apart : IsApart (holder link) (st.sooner ++ st.further)
  link_apart = link_inside Reads st.sooner st.further p link st.within own_link (subst (IsDistinct nat_eq) st.all_is h.once)
      (held_in old Reads link st.children st.inside st.within st.holds (subst (λ ids. IsPlaced link ids st.within) (sym gap.ids_are)
      (placed old p st.entry.child link no_entry gap.front [] gap.back st.within gap.hangs (outside_tail link n st.within outside))))

  stay : (ids : List ℕ) → IsApart n ids → IsApart (holder link) ids → AllStay old new Reads Reads ids
  stay ids a b = stay_then old mid new Reads Reads Reads ids (stay_apart old mid Reads Reads n ids only (λ e bytes r. r) a)
      (stay_apart mid new Reads Reads (holder link) ids linked.only (λ e bytes r. r) b)

  owner : Owner new p st.entry (root_after link st.entry.child n)
  owner = owner_after mid new p st.entry link n linked own_link p_found

  -- the storage's children, and the new one among them
  siblings : Siblings new owner.now.child (gap.front ++ n ∷ gap.back)
  siblings = subst (λ k. Siblings new k (gap.front ++ n ∷ gap.back)) (sym owner.child_is)
      (inserted_siblings old mid new Reads by_place letters object n f p st.entry.child st.children st.inside st.within link gap within_once n_behind.1
      outside unused.fits only n_found alone.left alone.right (made_object mid Reads n f object n_found alone.is) linked)

  pub new_child : IsChild letters new p (name_of object) n
  new_child =
      let is_object = made_object mid Reads n f object n_found alone.is in
      let same : s.owner.entry ≡ st.entry = Some_same (sym s.owner.found ∙ st.found) in
      record {
        owner = record { entry = owner.now; found = owner.found; holds = λ kind. s.owner.holds (ap (λ y. y.kind) same ∙ sym owner.same.kind ∙ kind) };
        front = gap.front;
        back = gap.back;
        siblings = siblings;
        named = record {
          entry = f;
          found = inserted_found old mid new Reads by_place letters object n f p st.entry.child st.children st.inside st.within link gap within_once n_behind.1
              outside unused.fits only n_found alone.left alone.right is_object linked;
          name = name_of object;
          named = object_named mid Reads n object [] f is_object n_found;
          compared = (name_cmp_equal letters (name_of object) (name_of object)).1 refl;
        };
      }

  -- the storage is there still
  pub storage_there : IsStorageAt letters new path p
  storage_there =
      let links = all_parts (λ k. nat_eq (holder link) k ≡ false) st.sooner st.further link_apart in
      record {
        leads = (st.leads_so new owner.now owner.found owner.same owner.left owner.right (stay st.sooner n_sooner links.0) (stay st.further n_behind.2 links.1)).0;
        owner = new_child.owner;
      }

  -- the path of the new child
  led : LeadsTo letters new 0 (path_to path (name_of object)) n
  led =
      let links = all_parts (λ k. nat_eq (holder link) k ≡ false) st.sooner st.further link_apart in
      leads_on letters new path 0 p (name_of object) n
      ((st.leads_so new owner.now owner.found owner.same owner.left owner.right (stay st.sooner n_sooner links.0) (stay st.further n_behind.2 links.1)).0) new_child

  grown : HoldsJust letters Reads new (changed letters (holding (with_child letters object)) path tree)
      (st.sooner ++ p ∷ ((gap.earlier_all ++ n ∷ gap.later_all) ++ st.further))
  grown =
      let links = all_parts (λ k. nat_eq (holder link) k ≡ false) st.sooner st.further link_apart in
      let is_object = made_object mid Reads n f object n_found alone.is in
      st.changed_so new (with_child letters object) (gap.earlier_all ++ n ∷ gap.later_all) (gap.front ++ n ∷ gap.back) owner.now owner.found owner.same
      owner.left owner.right (stay st.sooner n_sooner links.0) (stay st.further n_behind.2 links.1)
      siblings
      (inserted_holds old mid new Reads by_place letters object n f p st.entry.child st.children st.inside st.within link gap within_once n_behind.1
      outside unused.fits only n_found alone.left alone.right is_object linked)
      (distinct_inside st.sooner p gap.earlier_all gap.later_all st.further n (subst (IsDistinct nat_eq) whole_is h.once)
      (subst (IsApart n) whole_is (unused_apart letters Reads old tree h n unused)))
      (inserted_ordered old mid new Reads by_place letters object n f p st.entry.child st.children st.inside st.within link gap within_once n_behind.1
      outside unused.fits only n_found alone.left alone.right is_object linked (made_ordered letters Reads f object alone.is) st.ordered)

  with_it : HoldsJust letters Reads new (added letters object (path_to path (name_of object)) tree)
      (st.sooner ++ p ∷ ((gap.earlier_all ++ n ∷ gap.later_all) ++ st.further))
  with_it = subst (λ q. HoldsJust letters Reads new (changed letters (holding (with_child letters object)) q tree)
      (st.sooner ++ p ∷ ((gap.earlier_all ++ n ∷ gap.later_all) ++ st.further))) (sym (parent_of_path path (name_of object))) grown

  with_all : (k : ℕ) → IsApart k (0 ∷ with_it.holds.ids) ↔ (nat_eq k n ≡ false) × IsApart k (0 ∷ h.ids)
  with_all k =
      let both = apart_inside st.sooner p gap.earlier_all gap.later_all st.further n k in (
        λ apart. let parts = both.0 (subst (IsApart k) with_it.all_is apart) in (parts.0, subst (IsApart k) (sym whole_is) parts.1),
        λ apart. subst (IsApart k) (sym with_it.all_is) (both.1 (apart.0, subst (IsApart k) whole_is apart.1)),
      )

  -- LAW: the entries hold the tree with the new object
  pub grows : HoldsOneMore letters Reads old new (added letters object (path_to path (name_of object)) tree) h.ids (path_to path (name_of object)) n
  grows = record {
    holds = with_it.holds;
    all_are = with_all;
    at_path = led;
    colors = λ right. (
      black_relinked mid link n 0 (black_stays old n f 0 alone.color right.0),
      colored_more old new h.ids with_it.holds.ids n (λ k apart. (with_all k).1 apart) with_it.holds.once
          (λ k is. colored_relinked mid link n k (colored_stays old n f k alone.color is))
          (colored_relinked mid link n n (black_colored mid n f n_found alone.color)) right.1,
    );
  }
