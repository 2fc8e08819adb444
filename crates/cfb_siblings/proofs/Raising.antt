-- A sibling is raised above another.
use Rattle.std.proofs.Common.{◌≡◌, ◌≢◌, ℕ, ◌≤◌, false, List, [], ◌∷◌, ◌++◌, refl, sym, ◌∙◌, ap, subst, append_assoc}
use Rattle.std.specs.Prelude.{slice_get, Option, Some, None, IfSome, nat_eq}
use Rattle.std.specs.List.{IsDistinct}
use Rattle.cfb_tree.specs.Names.{CaseTable}
use Rattle.cfb_tree.specs.Paths.{Path}
use Rattle.cfb_tree.specs.Tree.{Tree}
use Rattle.cfb_tree.specs.Directory.{Entry, Siblings, no_entry, greatest_entry}
use Rattle.cfb_tree.specs.Objects.{EntriesHoldTree}
use Rattle.cfb_tree.proofs.OneContent.{Some_same}
use Rattle.cfb_siblings.specs.Changes.{IsApart}
use Rattle.cfb_siblings.specs.Links.{holder, relinked}
use Rattle.cfb_siblings.specs.Places.{HasEntry, Hangs, to_left, to_right, IsOwner, IsStorageAt}
use Rattle.cfb_siblings.specs.Rotations.{HoldsStill, IsReached, IsRotation, LeadsIn, raises_left, raises_right, Turns, TurnsIn}
use Rattle.cfb_siblings.specs.declared.links.Link.{Link}
use Rattle.cfb_siblings.specs.declared.links.Link.TheVariants.{Left, Right}
use Rattle.cfb_siblings.specs.declared.rotation.Rotation.{Rotation}
use Rattle.cfb_siblings.proofs.Parts.{ReadsByPlace, Relinks, root_after, IsOutside, IsPlaced}
use Rattle.cfb_siblings.proofs.Lists.{all_parts, apart_turned, distinct_moved, distinct_parts}
use Rattle.cfb_siblings.proofs.Frames.{siblings_apart}
use Rattle.cfb_siblings.proofs.Objects.{placed}
use Rattle.cfb_siblings.proofs.Choosing.{what_hangs, Hanging, Sides, sides}
use Rattle.cfb_siblings.proofs.Owners.{IsLinkOf, link_of, holder_found}
use Rattle.cfb_siblings.proofs.Relinking.{siblings_relinked}
use Rattle.cfb_siblings.proofs.Removing.{placed_apart}
use Rattle.cfb_siblings.proofs.Taking.{outside_one}
use Rattle.cfb_siblings.proofs.Rotating.{st, ids_once, p_apart, p_children, Kept, kept_first, kept_next, step, owner_now, holds_still}
use Rattle.cfb_siblings.proofs.Turning.{hung_fits, AreApart, two_apart, siblings_both, hangs_both, left_raised, right_raised, hangs_relinked}

module _ (letters : CaseTable) (Reads : Entry → List ℕ → Type 0) (by_place : ReadsByPlace Reads) (old : List Entry) (tree : Tree) (path : Path) (p : ℕ)
    (h : EntriesHoldTree letters Reads old tree) (s : IsStorageAt letters old path p) (link : Link) (upper : ℕ) (reached : IsReached old p link upper) where
  abbrev root : ℕ
  root = (st letters Reads by_place old tree path p h s).entry.child

  abbrev children : List ℕ
  children = (st letters Reads by_place old tree path p h s).children

  abbrev within : List ℕ
  within = (st letters Reads by_place old tree path p h s).within

  abbrev IsKept : List Entry → ℕ → Type 0
  IsKept now child = Kept letters Reads by_place old tree path p h s now child

  walk : Hangs old p root link upper reached.front reached.back
  walk = subst (λ y. Hangs old p y.child link upper reached.front reached.back)
      (Some_same (sym reached.owner.found ∙ (st letters Reads by_place old tree path p h s).found)) reached.hangs

  hanging : Hanging old upper reached.front reached.back children
  hanging = what_hangs old p root link upper reached.front reached.back children walk (st letters Reads by_place old tree path p h s).siblings

  p_ids : IsApart p reached.front × IsApart p hanging.here × IsApart p reached.back
  p_ids =
      let parts = all_parts (λ k. nat_eq p k ≡ false) reached.front (hanging.here ++ reached.back)
      (subst (IsApart p) hanging.ids_are (p_children letters Reads by_place old tree path p h s)) in
      let behind = all_parts (λ k. nat_eq p k ≡ false) hanging.here reached.back parts.1 in
      (parts.0, behind.0, behind.1)

  own_link : IsLinkOf p link
  own_link = link_of old p root link upper reached.front reached.back walk p_ids.0 p_ids.2

  outside : IsOutside link within
  outside = outside_one link p within own_link (p_apart letters Reads by_place old tree path p h s)

  -- the siblings, turned, and the link to the raised one
  module _ (mid : List Entry) (kept : IsKept mid root) (lower : ℕ) (here : List ℕ) (here_is : hanging.here ≡ here)
      (hangs : Hangs mid p root link upper reached.front reached.back) (siblings : Siblings mid lower here) where
    abbrev new : List Entry
    new = relinked link lower mid

    ids_are : children ≡ reached.front ++ (here ++ reached.back)
    ids_are = hanging.ids_are ∙ ap (λ xs. reached.front ++ (xs ++ reached.back)) here_is

    ids_turned : IsDistinct nat_eq ((reached.front ++ reached.back) ++ here)
    ids_turned = distinct_moved reached.front here reached.back (subst (IsDistinct nat_eq) ids_are (ids_once letters Reads by_place old tree path p h s))

    around_once : IsDistinct nat_eq (reached.front ++ reached.back)
    around_once = (distinct_parts (reached.front ++ reached.back) here ids_turned).0

    place : IsPlaced link children within
    place = subst (λ ids. IsPlaced link ids within) (sym ids_are) (placed mid p root link upper reached.front here reached.back within hangs outside)

    linked : Relinks mid new link lower
    linked = step letters Reads by_place old tree path p h s mid root kept link lower place own_link
        (holder_found mid p root link upper reached.front reached.back hangs (kept.owner.now, kept.owner.found))

    kept_new : IsKept new (root_after link root lower)
    kept_new = kept_next letters Reads by_place old tree path p h s mid root kept link lower place own_link
        (holder_found mid p root link upper reached.front reached.back hangs (kept.owner.now, kept.owner.found))

    link_apart : IsApart (holder link) here
    link_apart = placed_apart link (reached.front ++ reached.back) here within
        (placed mid p root link upper reached.front [] reached.back within hangs outside)
        (outside_one link p here own_link (subst (IsApart p) here_is p_ids.1)) ids_turned

    siblings_new : Siblings new (root_after link root lower) children
    siblings_new = subst (Siblings new (root_after link root lower)) (sym ids_are)
        (siblings_relinked mid new p root link upper lower reached.front reached.back here linked hangs around_once
        (siblings_apart mid new (holder link) lower here linked.only link_apart siblings))

    still : HoldsStill letters Reads old new tree h.ids path p
    still = holds_still letters Reads by_place old tree path p h s new (root_after link root lower) kept_new siblings_new

    abbrev owner : IsOwner new p
    owner = owner_now letters Reads by_place old tree path p h s new (root_after link root lower) kept_new siblings_new

    -- the walk to the raised one, and to the lowered one
    hangs_new : Hangs new p owner.entry.child link lower reached.front reached.back
    hangs_new = subst (λ k. Hangs new p k link lower reached.front reached.back) (sym kept_new.owner.child_is)
        (hangs_relinked mid new p root link upper lower reached.front reached.back linked hangs around_once)

    below_right : (x : Entry) (lefts rights : List ℕ) → here ≡ lefts ++ lower ∷ rights → lower ≤ greatest_entry → upper ≤ greatest_entry
        → slice_get mid lower ≡ Some x → x.right ≡ upper → Siblings mid x.left lefts → IsReached new p (Right lower) upper
    below_right x lefts rights is l_fits u_fits found leads on_left =
        let parts = all_parts (λ k. nat_eq (holder link) k ≡ false) lefts (lower ∷ rights) (subst (IsApart (holder link)) is link_apart) in
        record {
          owner = owner;
          front = reached.front ++ (lefts ++ lower ∷ []);
          back = reached.back;
          hangs = to_right link lower x lefts reached.front hangs_new l_fits (linked.only lower x parts.1.0 found)
              (siblings_apart mid new (holder link) x.left lefts linked.only parts.0 on_left) refl (sym leads) refl;
          fits = u_fits;
        }

    below_left : (x : Entry) (lefts rights : List ℕ) → here ≡ lefts ++ lower ∷ rights → lower ≤ greatest_entry → upper ≤ greatest_entry
        → slice_get mid lower ≡ Some x → x.left ≡ upper → Siblings mid x.right rights → IsReached new p (Left lower) upper
    below_left x lefts rights is l_fits u_fits found leads on_right =
        let parts = all_parts (λ k. nat_eq (holder link) k ≡ false) lefts (lower ∷ rights) (subst (IsApart (holder link)) is link_apart) in
        record {
          owner = owner;
          front = reached.front;
          back = lower ∷ (rights ++ reached.back);
          hangs = to_left link lower x rights reached.back hangs_new l_fits (linked.only lower x parts.1.0 found)
              (siblings_apart mid new (holder link) x.right rights linked.only parts.1.1 on_right) refl (sym leads) refl;
          fits = u_fits;
        }

  abbrev Turned : Rotation → Type 0
  Turned it = Turns letters Reads old tree h.ids path p upper it

  module _ (u l : Entry) (u_found : slice_get old upper ≡ Some u) where
    u_sides : Sides old upper u hanging.here
    u_sides = sides old upper u hanging.here reached.fits u_found hanging.siblings

    p_number : (xs : List ℕ) (k : ℕ) (ys : List ℕ) → children ≡ xs ++ k ∷ ys → nat_eq k p ≡ false
    p_number xs k ys is =
        apart_turned p k ((all_parts (λ j. nat_eq p j ≡ false) xs (k ∷ ys) (subst (IsApart p) is (p_children letters Reads by_place old tree path p h s))).1.0)

    left_turns : u.left ≢ no_entry → slice_get old u.left ≡ Some l → Turned (record {
      inner = record { link = Left upper; target = l.right };
      lowered = record { link = Right u.left; target = upper };
      raised = record { link = link; target = u.left };
    })
    left_turns more l_found =
        let lower = u.left in
        let l_fits = hung_fits old lower u_sides.lefts more u_sides.on_left in
        let l_sides = sides old lower l u_sides.lefts l_fits l_found u_sides.on_left in
        let lefts = l_sides.lefts in
        let midst = l_sides.rights in
        let rights = u_sides.rights in
        let here_is : hanging.here ≡ lefts ++ lower ∷ (midst ++ upper ∷ rights) =
        u_sides.here_is ∙ ap (λ xs. xs ++ upper ∷ rights) l_sides.here_is ∙ append_assoc lefts (lower ∷ midst) (upper ∷ rights) in
        let ids_are : children ≡ reached.front ++ ((lefts ++ lower ∷ (midst ++ upper ∷ rights)) ++ reached.back) =
        hanging.ids_are ∙ ap (λ xs. reached.front ++ (xs ++ reached.back)) here_is in
        let two = two_apart reached.front lefts lower midst upper rights reached.back
        (subst (IsDistinct nat_eq) ids_are (ids_once letters Reads by_place old tree path p h s)) in
        let upper_at : children ≡ (reached.front ++ (lefts ++ lower ∷ midst)) ++ upper ∷ (rights ++ reached.back) = ids_are ∙ simp append_assoc refl in
        let lower_at : children ≡ (reached.front ++ lefts) ++ lower ∷ ((midst ++ upper ∷ rights) ++ reached.back) = ids_are ∙ simp append_assoc refl in
        let first = kept_first letters Reads by_place old tree path p h s in
        let place : IsPlaced (Left upper) children within = (reached.front ++ (lefts ++ lower ∷ midst), rights ++ reached.back, upper_at) in
        let other = p_number (reached.front ++ (lefts ++ lower ∷ midst)) upper (rights ++ reached.back) upper_at in
        let r = step letters Reads by_place old tree path p h s old root first (Left upper) l.right place other (u, u_found) in
        let one = kept_next letters Reads by_place old tree path p h s old root first (Left upper) l.right place other (u, u_found) in
        let mid = relinked (Left upper) l.right old in
        let l_mid : slice_get mid lower ≡ Some l = r.only lower l (apart_turned lower upper two.differ) l_found in
        let place' : IsPlaced (Right lower) children within = (reached.front ++ lefts, (midst ++ upper ∷ rights) ++ reached.back, lower_at) in
        let other' = p_number (reached.front ++ lefts) lower ((midst ++ upper ∷ rights) ++ reached.back) lower_at in
        let r' = step letters Reads by_place old tree path p h s mid root one (Right lower) upper place' other' (l, l_mid) in
        let both = kept_next letters Reads by_place old tree path p h s mid root one (Right lower) upper place' other' (l, l_mid) in
        let last = relinked (Right lower) upper mid in
        let hangs = hangs_both old mid last lower upper r.only r'.only p root link upper reached.front reached.back two.in_front two.in_back walk in
        let siblings = left_raised old mid last upper lower u l u_found l_found reached.fits l_fits reached.front lefts midst rights reached.back r r' two
        l_sides.on_left l_sides.on_right u_sides.on_right in
        let l_was : r'.was ≡ l = Some_same (sym r'.was_found ∙ l_mid) in
        record {
          inner = (u, u_found);
          lowered = (l, l_found);
          raised = holder_found old p root link upper reached.front reached.back walk ((st letters Reads by_place old tree path p h s).entry, (st letters Reads by_place old tree path p h s).found);
          still = still last both lower (lefts ++ lower ∷ (midst ++ upper ∷ rights)) here_is hangs siblings;
          reached = below_right last both lower (lefts ++ lower ∷ (midst ++ upper ∷ rights)) here_is hangs siblings r'.now lefts (midst ++ upper ∷ rights) refl
              l_fits reached.fits r'.now_found r'.leads.0
              (subst (λ k. Siblings last k lefts) (sym (r'.leads.1 ∙ ap (λ y. y.left) l_was))
              (siblings_both old mid last lower upper r.only r'.only l.left lefts two.in_lefts l_sides.on_left));
        }

    right_turns : u.right ≢ no_entry → slice_get old u.right ≡ Some l → Turned (record {
      inner = record { link = Right upper; target = l.left };
      lowered = record { link = Left u.right; target = upper };
      raised = record { link = link; target = u.right };
    })
    right_turns more l_found =
        let lower = u.right in
        let l_fits = hung_fits old lower u_sides.rights more u_sides.on_right in
        let l_sides = sides old lower l u_sides.rights l_fits l_found u_sides.on_right in
        let lefts = u_sides.lefts in
        let midst = l_sides.lefts in
        let rights = l_sides.rights in
        let here_so : hanging.here ≡ lefts ++ upper ∷ (midst ++ lower ∷ rights) = u_sides.here_is ∙ ap (λ xs. lefts ++ upper ∷ xs) l_sides.here_is in
        let here_is : hanging.here ≡ (lefts ++ upper ∷ midst) ++ lower ∷ rights = here_so ∙ sym (append_assoc lefts (upper ∷ midst) (lower ∷ rights)) in
        let ids_are : children ≡ reached.front ++ ((lefts ++ upper ∷ (midst ++ lower ∷ rights)) ++ reached.back) =
        hanging.ids_are ∙ ap (λ xs. reached.front ++ (xs ++ reached.back)) here_so in
        let two = two_apart reached.front lefts upper midst lower rights reached.back
        (subst (IsDistinct nat_eq) ids_are (ids_once letters Reads by_place old tree path p h s)) in
        let turn : (xs : List ℕ) → AreApart upper lower xs → AreApart lower upper xs = λ xs both. (both.1, both.0) in
        let lower_at : children ≡ (reached.front ++ (lefts ++ upper ∷ midst)) ++ lower ∷ (rights ++ reached.back) = ids_are ∙ simp append_assoc refl in
        let upper_at : children ≡ (reached.front ++ lefts) ++ upper ∷ ((midst ++ lower ∷ rights) ++ reached.back) = ids_are ∙ simp append_assoc refl in
        let first = kept_first letters Reads by_place old tree path p h s in
        let place : IsPlaced (Right upper) children within = (reached.front ++ lefts, (midst ++ lower ∷ rights) ++ reached.back, upper_at) in
        let other = p_number (reached.front ++ lefts) upper ((midst ++ lower ∷ rights) ++ reached.back) upper_at in
        let r = step letters Reads by_place old tree path p h s old root first (Right upper) l.left place other (u, u_found) in
        let one = kept_next letters Reads by_place old tree path p h s old root first (Right upper) l.left place other (u, u_found) in
        let mid = relinked (Right upper) l.left old in
        let l_mid : slice_get mid lower ≡ Some l = r.only lower l two.differ l_found in
        let place' : IsPlaced (Left lower) children within = (reached.front ++ (lefts ++ upper ∷ midst), rights ++ reached.back, lower_at) in
        let other' = p_number (reached.front ++ (lefts ++ upper ∷ midst)) lower (rights ++ reached.back) lower_at in
        let r' = step letters Reads by_place old tree path p h s mid root one (Left lower) upper place' other' (l, l_mid) in
        let both = kept_next letters Reads by_place old tree path p h s mid root one (Left lower) upper place' other' (l, l_mid) in
        let last = relinked (Left lower) upper mid in
        let hangs = hangs_both old mid last lower upper r.only r'.only p root link upper reached.front reached.back (turn reached.front two.in_front) (turn reached.back two.in_back) walk in
        let siblings = right_raised old mid last upper lower u l u_found l_found reached.fits l_fits reached.front lefts midst rights reached.back r r' two
        u_sides.on_left l_sides.on_left l_sides.on_right in
        let l_was : r'.was ≡ l = Some_same (sym r'.was_found ∙ l_mid) in
        record {
          inner = (u, u_found);
          lowered = (l, l_found);
          raised = holder_found old p root link upper reached.front reached.back walk ((st letters Reads by_place old tree path p h s).entry, (st letters Reads by_place old tree path p h s).found);
          still = still last both lower ((lefts ++ upper ∷ midst) ++ lower ∷ rights) here_is hangs siblings;
          reached = below_left last both lower ((lefts ++ upper ∷ midst) ++ lower ∷ rights) here_is hangs siblings r'.now (lefts ++ upper ∷ midst) rights refl
              l_fits reached.fits r'.now_found r'.leads.0
              (subst (λ k. Siblings last k rights) (sym (r'.leads.1 ∙ ap (λ y. y.right) l_was))
              (siblings_both old mid last lower upper r.only r'.only l.right rights (turn rights two.in_rights) l_sides.on_right));
        }

  -- LAW: what a rotation leaves
  pub turns : (it : Rotation) → IsRotation old link upper it → Turned it
  turns it (raises_left u l u_found more l_found is) = subst Turned (sym is) (left_turns u l u_found more l_found)
  turns it (raises_right u l u_found more l_found is) = subst Turned (sym is) (right_turns u l u_found more l_found)

-- the link to the upper one is the last that the rotation sets
pub rises : (letters : CaseTable) (directory : List Entry) (parent : ℕ) (link : Link) (upper : ℕ) (o : Option Rotation) → IfSome o (IsRotation directory link upper)
    → HasEntry directory (holder link) × LeadsIn letters directory parent link upper → IfSome o (TurnsIn letters directory parent)
rises letters directory parent link upper None planned (there, leads) = tt
rises letters directory parent link upper (Some it) planned (there, leads) =
    let is = raised_by planned in
    record {
      upper = upper;
      rotation = subst (λ l. IsRotation directory l upper it) (sym is) planned;
      there = subst (λ l. HasEntry directory (holder l)) (sym is) there;
      leads = subst (λ l. LeadsIn letters directory parent l upper) (sym is) leads;
    }
  where
    raised_by : {it : Rotation} → IsRotation directory link upper it → it.raised.link ≡ link
    raised_by (raises_left u l u_found more l_found is) = ap (λ r. r.raised.link) is
    raised_by (raises_right u l u_found more l_found is) = ap (λ r. r.raised.link) is
