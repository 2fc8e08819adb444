-- A child of a storage of a tree is taken out.
use Rattle.std.proofs.Common.{◌≡◌, ◌↔◌, ℕ, false, List, [], ◌∷◌, ◌++◌, refl, sym, ◌∙◌, ap, subst, append_assoc, append-nil}
use Rattle.std.specs.Prelude.{slice_get, slice_set, Some, None, nat_eq}
use Rattle.std.specs.List.{IsDistinct}
use Rattle.cfb_tree.specs.Names.{CaseTable}
use Rattle.cfb_tree.specs.Paths.{Path}
use Rattle.cfb_tree.specs.Tree.{Content, Tree}
use Rattle.cfb_tree.specs.Directory.{Entry, Siblings, Holds, no_entry}
use Rattle.cfb_tree.specs.Objects.{joined_contents, EntriesHoldTree, IsObject, Object}
use Rattle.cfb_tree.specs.Changes.{parent_of, removed, changed, holding, without_child}
use Rattle.cfb_tree.specs.Entries.{IsBlackAt, IsColored}
use Rattle.cfb_tree.proofs.OneContent.{Some_same}
use Rattle.cfb_siblings.specs.Changes.{IsApart, HoldsOneLess, TakesOut}
use Rattle.cfb_siblings.specs.Links.{holder, relinked}
use Rattle.cfb_siblings.specs.Places.{HasEntry, Hangs, IsChild, IsStorageAt, NameIsTaken, LeadsBy, path_to}
use Rattle.cfb_siblings.specs.declared.links.Link.{Link}
use Rattle.cfb_siblings.specs.declared.links.Link.TheVariants.{Child, Left, Right}
use Rattle.cfb_siblings.proofs.Parts.{AllStay, ReadsByPlace, Relinks, root_after, IsOutside, IsPlaced}
use Rattle.cfb_siblings.proofs.Records.{Found}
use Rattle.cfb_siblings.proofs.Lists.{all_parts, all_map, apart_turned, distinct_parts, distinct_outside, gone_outside, apart_outside}
use Rattle.cfb_siblings.proofs.Frames.{set_changes_only, outermost, stay_apart, stay_then}
use Rattle.cfb_siblings.proofs.Objects.{placed, siblings_distinct}
use Rattle.cfb_siblings.proofs.Searching.{no_siblings}
use Rattle.cfb_siblings.proofs.Choosing.{found_of}
use Rattle.cfb_siblings.proofs.KeptOrder.{removed_ordered}
use Rattle.cfb_siblings.proofs.Owners.{IsLinkOf, IsHeldIn, link_of, relinks, holder_found, Owner, owner_after, held_in, link_inside}
use Rattle.cfb_siblings.proofs.Removing.{Spliced, spliced_plain, spliced_joined, rest_held, rest_once, removed_once, removed_holds, removed_siblings}
use Rattle.cfb_siblings.proofs.Colors.{black_cleared, black_relinked, colored_relinked}
use Rattle.cfb_siblings.proofs.Coloring.{colored_less}
use Rattle.cfb_siblings.proofs.Leading.{parent_of_path, last_of_path}
use Rattle.cfb_siblings.proofs.Trees.{HoldsJust, Storing, storing, storing_once}

removed_is : (letters : CaseTable) (path : Path) (wanted : List ℕ) (tree : Tree)
    → removed letters (path_to path wanted) tree ≡ changed letters (holding (without_child letters wanted)) path tree
removed_is letters [] wanted tree = ap (λ q. changed letters (holding (without_child letters wanted)) q tree) (parent_of_path [] wanted)
removed_is letters (name ∷ names) wanted tree =
    ap (λ n. changed letters (holding (without_child letters n)) (parent_of (path_to (name ∷ names) wanted)) tree) (last_of_path (name ∷ names) wanted)
    ∙ ap (λ q. changed letters (holding (without_child letters wanted)) q tree) (parent_of_path (name ∷ names) wanted)

pub outside_one : (link : Link) (p : ℕ) (within : List ℕ) → IsLinkOf p link → IsApart p within → IsOutside link within
outside_one (Child id) p within is apart = subst (λ k. IsApart k within) (sym is) apart
outside_one (Left id) p within is apart = tt
outside_one (Right id) p within is apart = tt

module _ (letters : CaseTable) (Reads : Entry → List ℕ → Type 0) (by_place : ReadsByPlace Reads) (old : List Entry) (tree : Tree) (path : Path) (p : ℕ)
    (link : Link) (at : ℕ) (wanted : List ℕ) (h : EntriesHoldTree letters Reads old tree) (s : IsStorageAt letters old path p)
    (taken : NameIsTaken letters old p wanted link at) where
  pub st : Storing old Reads Reads letters tree path p h.ids
  st = storing old Reads Reads letters tree h path p s

  pub found : Found old Reads letters wanted p st.entry.child st.children st.inside st.within link at taken.named.entry
  found = found_of old Reads letters wanted p st.entry.child st.children st.inside st.within link at taken.front taken.back
      (subst (λ y. Hangs old p y.child link at taken.front taken.back) (Some_same (sym taken.owner.found ∙ st.found)) taken.hangs)
      taken.fits taken.named st.siblings st.holds st.ordered.0

  -- it is the child of the name, and an object
  pub taken_child : IsChild letters old p wanted at
  taken_child = record {
    owner = taken.owner;
    front = found.chosen.front;
    back = found.chosen.back;
    siblings = subst (λ y. Siblings old y.child (found.chosen.front ++ at ∷ found.chosen.back)) (Some_same (sym st.found ∙ taken.owner.found))
        (subst (Siblings old st.entry.child) found.chosen.ids_are st.siblings);
    named = taken.named;
  }

  pub taken_object : (o : Object) × (own : List ℕ) × IsObject old Reads at o own
  taken_object = (found.chosen.object, found.chosen.own, found.chosen.is_object)

  abbrev rest_all : List ℕ
  rest_all = found.chosen.earlier_all ++ found.chosen.later_all

  abbrev rest_content : Content
  rest_content = joined_contents found.chosen.earlier found.chosen.later

  abbrev rest_ids : List ℕ
  rest_ids = found.front ++ ((found.lefts ++ found.rights) ++ found.back)

  whole_is : 0 ∷ h.ids ≡ st.sooner ++ p ∷ ((found.chosen.earlier_all ++ at ∷ (found.chosen.own ++ found.chosen.later_all)) ++ st.further)
  whole_is = st.all_is ∙ ap (λ xs. st.sooner ++ p ∷ (xs ++ st.further)) found.chosen.all_is

  once : IsDistinct nat_eq (p ∷ st.within)
  once = storing_once old Reads Reads letters tree path p h.ids st h.once

  p_apart : IsApart p st.within
  unfolding IsDistinct
  p_apart = once.0

  within_once : IsDistinct nat_eq st.within
  unfolding IsDistinct
  within_once = once.1

  whole_once : IsDistinct nat_eq (st.sooner ++ p ∷ ((found.chosen.earlier_all ++ at ∷ (found.chosen.own ++ found.chosen.later_all)) ++ st.further))
  whole_once = subst (IsDistinct nat_eq) whole_is h.once

  -- the entry is apart from what is left
  at_gone : IsApart at (st.sooner ++ p ∷ (rest_all ++ st.further))
  at_gone = gone_outside st.sooner p found.chosen.earlier_all at found.chosen.own found.chosen.later_all st.further whole_once

  at_around : IsApart at st.sooner × (nat_eq at p ≡ false) × IsApart at st.further
  at_around =
      let parts = all_parts (λ k. nat_eq at k ≡ false) st.sooner (p ∷ (rest_all ++ st.further)) at_gone in
      (parts.0, parts.1.0, (all_parts (λ k. nat_eq at k ≡ false) rest_all st.further parts.1.1).1)

  -- so is the storage from its children
  p_around : IsApart p found.front × IsApart p found.back
  p_around =
      let ids = subst (IsApart p) found.ids_are (outermost old old Reads Reads (λ id. nat_eq p id ≡ false) st.inside st.children st.within st.holds p_apart) in
      let parts = all_parts (λ k. nat_eq p k ≡ false) (found.front ++ found.lefts) (at ∷ (found.rights ++ found.back)) ids in (
        (all_parts (λ k. nat_eq p k ≡ false) found.front found.lefts parts.0).0,
        (all_parts (λ k. nat_eq p k ≡ false) found.rights found.back parts.1.1).1,
      )

  own_link : IsLinkOf p link
  own_link = link_of old p st.entry.child link at found.front found.back found.hangs p_around.0 p_around.1

  outside : IsOutside link st.within
  outside = outside_one link p st.within own_link p_apart

  -- a link of the storage or among its children is apart from what lies outside of it
  within_apart : (other : Link) → IsLinkOf p other → IsHeldIn other st.within → IsApart (holder other) (st.sooner ++ st.further)
  within_apart other own held = link_inside Reads st.sooner st.further p other st.within own (subst (IsDistinct nat_eq) st.all_is h.once) held

  ids_are : st.children ≡ found.front ++ ((found.lefts ++ at ∷ found.rights) ++ found.back)
  ids_are = found.ids_are ∙ simp append_assoc refl

  link_apart : IsApart (holder link) (st.sooner ++ st.further)
  link_apart = within_apart link own_link (held_in old Reads link st.children st.inside st.within st.holds
      (subst (λ ids. IsPlaced link ids st.within) (sym ids_are)
      (placed old p st.entry.child link at found.front (found.lefts ++ at ∷ found.rights) found.back st.within found.hangs outside)))

  -- the entries after both sides of the entry were joined
  pub record Joined (mid : List Entry) (target : ℕ) : Type 0 where
    pub step : Spliced old mid Reads by_place taken.named.entry found.front found.lefts found.rights found.back rest_content rest_all
        p st.entry.child link at target
    pub p_found : slice_get mid p ≡ Some st.entry
    pub sooner_stay : AllStay old mid Reads Reads st.sooner
    pub further_stay : AllStay old mid Reads Reads st.further
    pub black_stays : IsBlackAt old 0 → IsBlackAt mid 0
    pub colored_stay : (k : ℕ) → IsColored old k → IsColored mid k

  module _ (mid : List Entry) (target : ℕ) (it : Joined mid target) (g : Entry) where
    abbrev new : List Entry
    new = relinked link target mid

    abbrev last : List Entry
    last = slice_set new at g

    linked : Relinks mid new link target
    linked = relinks mid link target (holder_found mid p st.entry.child link at found.front found.back it.step.hangs (st.entry, it.p_found))

    owner : Owner new p st.entry (root_after link st.entry.child target)
    owner = owner_after mid new p st.entry link target linked own_link it.p_found

    stay : (ids : List ℕ) → AllStay old mid Reads Reads ids → IsApart (holder link) ids → IsApart at ids → AllStay old last Reads Reads ids
    stay ids before a b = stay_then old new last Reads Reads Reads ids
        (stay_then old mid new Reads Reads Reads ids before (stay_apart mid new Reads Reads (holder link) ids linked.only (λ e bytes r. r) a))
        (stay_apart new last Reads Reads at ids (set_changes_only new at g) (λ e bytes r. r) b)

    links_apart : IsApart (holder link) st.sooner × IsApart (holder link) st.further
    links_apart = all_parts (λ k. nat_eq (holder link) k ≡ false) st.sooner st.further link_apart

    sooner_last : AllStay old last Reads Reads st.sooner
    sooner_last = stay st.sooner it.sooner_stay links_apart.0 at_around.0

    further_last : AllStay old last Reads Reads st.further
    further_last = stay st.further it.further_stay links_apart.1 at_around.2

    owner_last : slice_get last p ≡ Some owner.now
    owner_last = set_changes_only new at g p owner.now at_around.1 owner.found

    shrunk : HoldsJust letters Reads last (changed letters (holding (without_child letters wanted)) path tree) (st.sooner ++ p ∷ (rest_all ++ st.further))
    shrunk =
        st.changed_so last (without_child letters wanted) rest_all rest_ids owner.now owner_last owner.same owner.left owner.right sooner_last further_last
        (subst (λ k. Siblings last k rest_ids) (sym owner.child_is)
        (removed_siblings old Reads by_place letters wanted p st.entry.child st.children st.inside st.within link at taken.named.entry found within_once outside
        mid new last target it.step linked (set_changes_only new at g)))
        (removed_holds old Reads by_place letters wanted p st.entry.child st.children st.inside st.within link at taken.named.entry found within_once outside
        mid new last target it.step linked (set_changes_only new at g))
        (distinct_outside st.sooner p found.chosen.earlier_all at found.chosen.own found.chosen.later_all st.further whole_once)
        (removed_ordered old Reads letters wanted st.children st.inside st.within at found.chosen st.ordered)

    without_it : HoldsJust letters Reads last (removed letters (path_to path wanted) tree) (st.sooner ++ p ∷ (rest_all ++ st.further))
    without_it = subst (λ t. HoldsJust letters Reads last t (st.sooner ++ p ∷ (rest_all ++ st.further))) (sym (removed_is letters path wanted tree)) shrunk

    without_all : (k : ℕ) → IsApart k (0 ∷ h.ids) ↔ (nat_eq k at ≡ false) × IsApart k found.chosen.own × IsApart k (0 ∷ without_it.holds.ids)
    without_all k =
        let both = apart_outside st.sooner p found.chosen.earlier_all at found.chosen.own found.chosen.later_all st.further k in (
          λ apart. let parts = both.0 (subst (IsApart k) whole_is apart) in (parts.0, parts.1, subst (IsApart k) (sym without_it.all_is) parts.2),
          λ apart. subst (IsApart k) (sym whole_is) (both.1 (apart.0, apart.1, subst (IsApart k) without_it.all_is apart.2)),
        )

    gone : IsApart at (0 ∷ without_it.holds.ids)
    gone = subst (IsApart at) (sym without_it.all_is) at_gone

    -- LAW: the entries hold the tree without the object
    pub shrinks : HoldsOneLess letters Reads old last (removed letters (path_to path wanted) tree) h.ids (path_to path wanted) at found.chosen.own
    shrinks = record {
      holds = without_it.holds;
      all_are = without_all;
      gone = gone;
      ways = subst (λ q. (way : List ℕ) → LeadsBy letters old 0 q way → LeadsBy letters last 0 q way) (sym (parent_of_path path wanted))
          ((st.leads_so last owner.now owner_last owner.same owner.left owner.right sooner_last further_last).1);
      colors = λ right. (
        black_cleared new at 0 g gone.0 (black_relinked mid link target 0 (it.black_stays right.0)),
        colored_less letters Reads new (removed letters (path_to path wanted) tree) h.ids at g without_it.holds taken.fits gone
            (λ k apart. ((without_all k).0 apart).2)
            (all_map (IsColored old) (IsColored new) h.ids (λ k is. colored_relinked mid link target k (it.colored_stay k is)) right.1),
      );
    }

  same_stay : (ids : List ℕ) → AllStay old old Reads Reads ids
  same_stay ids = all_same ids
    where
      all_same : (ids : List ℕ) → AllStay old old Reads Reads ids
      all_same [] = tt
      all_same (id ∷ ids) = (
        λ e is. record {
          now = e;
          found = is;
          same = record { name_units = refl; name_len = refl; kind = refl; facts = refl };
          left = refl;
          right = refl;
          child = refl;
          reads = λ bytes r. r;
        },
        all_same ids,
      )

  held_before : Holds old Reads rest_ids rest_content rest_all
  held_before = rest_held old Reads by_place letters wanted p st.entry.child st.children st.inside st.within link at taken.named.entry found within_once outside

  plain : (target : ℕ) → Siblings old target (found.lefts ++ found.rights) → Joined old target
  plain target joined = record {
    step = spliced_plain old old Reads by_place taken.named.entry found.front found.lefts found.rights found.back rest_content rest_all
        p st.entry.child link at target refl joined found.hangs held_before;
    p_found = st.found;
    sooner_stay = same_stay st.sooner;
    further_stay = same_stay st.further;
    black_stays = λ is. is;
    colored_stay = λ k is. is;
  }

  -- nothing is joined where one side has no siblings
  pub without_left : taken.named.entry.left ≡ no_entry → Joined old taken.named.entry.right
  without_left is = plain taken.named.entry.right
      (subst (λ xs. Siblings old taken.named.entry.right (xs ++ found.rights)) (sym (no_siblings old Reads taken.named.entry.left found.lefts is found.on_left)) found.on_right)

  pub without_right : taken.named.entry.right ≡ no_entry → Joined old taken.named.entry.left
  without_right is = plain taken.named.entry.left
      (subst (Siblings old taken.named.entry.left)
      (sym (ap (λ xs. found.lefts ++ xs) (no_siblings old Reads taken.named.entry.right found.rights is found.on_right) ∙ append-nil found.lefts)) found.on_left)

  -- else the last on the left leads to those on the right
  module _ (l : ℕ) (deep : Hangs old 0 taken.named.entry.left (Right l) no_entry found.lefts []) where
    abbrev joined : List Entry
    joined = relinked (Right l) taken.named.entry.right old

    pub l_found : HasEntry old l
    l_found = holder_found old 0 taken.named.entry.left (Right l) no_entry found.lefts [] deep (h.root, h.root_found)

    l_linked : Relinks old joined (Right l) taken.named.entry.right
    l_linked = relinks old (Right l) taken.named.entry.right l_found

    l_held : IsHeldIn (Right l) st.within
    l_held =
        let place : IsPlaced (Right l) (found.lefts ++ []) st.within =
        placed old 0 taken.named.entry.left (Right l) no_entry found.lefts [] [] st.within deep tt in
        held_in old Reads (Right l) st.children st.inside st.within st.holds (
          found.front ++ place.0,
          place.1 ++ at ∷ (found.rights ++ found.back),
          found.ids_are ∙ ap (λ xs. (found.front ++ xs) ++ at ∷ (found.rights ++ found.back)) (sym (append-nil found.lefts) ∙ place.2) ∙ simp append_assoc refl,
        )

    l_apart : nat_eq l p ≡ false
    l_apart = apart_turned p l ((all_parts (λ k. nat_eq p k ≡ false) l_held.0 (l ∷ l_held.1) (subst (IsApart p) l_held.2 p_apart)).1.0)

    pub with_both : Joined joined taken.named.entry.left
    with_both =
        let parts = all_parts (λ k. nat_eq l k ≡ false) st.sooner st.further (within_apart (Right l) l_apart l_held) in
        record {
          step = spliced_joined old joined Reads by_place taken.named.entry found.front found.lefts found.rights found.back rest_content rest_all
              p st.entry.child link at 0 l l_linked deep found.on_right found.hangs
              (rest_once old Reads by_place letters wanted p st.entry.child st.children st.inside st.within link at taken.named.entry found within_once outside)
              (removed_once old Reads by_place letters wanted p st.entry.child st.children st.inside st.within link at taken.named.entry found within_once outside)
              held_before;
          p_found = l_linked.only p st.entry l_apart st.found;
          sooner_stay = stay_apart old joined Reads Reads l st.sooner l_linked.only (λ e bytes r. r) parts.0;
          further_stay = stay_apart old joined Reads Reads l st.further l_linked.only (λ e bytes r. r) parts.1;
          black_stays = black_relinked old (Right l) taken.named.entry.right 0;
          colored_stay = colored_relinked old (Right l) taken.named.entry.right;
        }

  -- THE REMOVAL, by what stands on both sides
  link_found : HasEntry old (holder link)
  link_found = holder_found old p st.entry.child link at found.front found.back found.hangs (st.entry, st.found)

  plain_removal : (target : ℕ) → Joined old target
      → TakesOut letters Reads old tree h.ids (path_to path wanted) at (record { joined = None; replaced = record { link = link; target = target } })
  plain_removal target it = record {
    object = found.chosen.object;
    own = found.chosen.own;
    is_object = found.chosen.is_object;
    replaced = link_found;
    joined = tt;
    leaves = λ g. shrinks old target it g;
  }

  module _ (e : Entry) (e_found : slice_get old at ≡ Some e) where
    is_e : taken.named.entry ≡ e
    is_e = Some_same (sym taken.named.found ∙ e_found)

    pub takes_right : e.left ≡ no_entry
        → TakesOut letters Reads old tree h.ids (path_to path wanted) at (record { joined = None; replaced = record { link = link; target = e.right } })
    takes_right is = plain_removal e.right (subst (λ y. Joined old y.right) is_e (without_left (ap (λ y. y.left) is_e ∙ is)))

    pub takes_left : e.right ≡ no_entry
        → TakesOut letters Reads old tree h.ids (path_to path wanted) at (record { joined = None; replaced = record { link = link; target = e.left } })
    takes_left is = plain_removal e.left (subst (λ y. Joined old y.left) is_e (without_right (ap (λ y. y.right) is_e ∙ is)))

    pub lefts_hang : Siblings old e.left found.lefts
    lefts_hang = subst (λ y. Siblings old y.left found.lefts) is_e found.on_left

    pub takes_both : (l : ℕ) → Hangs old 0 e.left (Right l) no_entry found.lefts []
        → TakesOut letters Reads old tree h.ids (path_to path wanted) at
        (record { joined = Some (record { link = Right l; target = e.right }); replaced = record { link = link; target = e.left } })
    takes_both l deep =
        let way = subst (λ y. Hangs old 0 y.left (Right l) no_entry found.lefts []) (sym is_e) deep in
        let it : Joined (relinked (Right l) e.right old) e.left =
        subst (λ y. Joined (relinked (Right l) y.right old) y.left) is_e (with_both l way) in
        record {
          object = found.chosen.object;
          own = found.chosen.own;
          is_object = found.chosen.is_object;
          replaced = link_found;
          joined = l_found l way;
          leaves = λ g. shrinks (relinked (Right l) e.right old) e.left it g;
        }

  pub lefts_once : IsDistinct nat_eq found.lefts
  lefts_once =
      let ids = subst (IsDistinct nat_eq) found.ids_are (siblings_distinct old Reads st.inside st.children st.within st.holds within_once) in
      (distinct_parts found.front found.lefts ((distinct_parts (found.front ++ found.lefts) (at ∷ (found.rights ++ found.back)) ids).0)).1
