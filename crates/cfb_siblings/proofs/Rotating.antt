-- What the entries hold stays where siblings of a storage of the tree are turned.
use Rattle.std.proofs.Common.{◌≡◌, ℕ, false, List, [], ◌∷◌, ◌++◌, ◌⊎◌, inl, inr, refl, sym, ◌∙◌, ap, subst, append_assoc, arith}
use Rattle.std.specs.Prelude.{slice_get, Some, nat_eq}
use Rattle.std.specs.List.{IsDistinct}
use Rattle.cfb_tree.specs.Names.{CaseTable}
use Rattle.cfb_tree.specs.Paths.{Path}
use Rattle.cfb_tree.specs.Tree.{Tree}
use Rattle.cfb_tree.specs.Directory.{Entry, Siblings, Holds}
use Rattle.cfb_tree.specs.Objects.{Object, EntriesHoldTree, IsObject}
use Rattle.cfb_tree.specs.Entries.{IsBlackAt, IsColored}
use Rattle.cfb_tree.proofs.OneContent.{Some_same, siblings_unique}
use Rattle.cfb_siblings.specs.Changes.{IsApart}
use Rattle.cfb_siblings.specs.Links.{holder, relinked}
use Rattle.cfb_siblings.specs.Places.{HasEntry, IsChild, IsOwner, IsStorageAt, LeadsBy, LeadsTo}
use Rattle.cfb_siblings.specs.Rotations.{HoldsStill}
use Rattle.cfb_siblings.specs.declared.links.Link.{Link}
use Rattle.cfb_siblings.specs.declared.links.Link.TheVariants.{Child, Left, Right}
use Rattle.cfb_siblings.proofs.Parts.{AllStay, HasSameFacts, ReadsByPlace, Relinks, root_after, IsPlaced}
use Rattle.cfb_siblings.proofs.Lists.{all_map, all_parts, apart_in, distinct_parts, distinct_swap}
use Rattle.cfb_siblings.proofs.Frames.{either_same, name_stays, outermost, stay_apart, stay_then}
use Rattle.cfb_siblings.proofs.Joining.{halves, headed}
use Rattle.cfb_siblings.proofs.Objects.{holds_relinked, object_stays, siblings_distinct}
use Rattle.cfb_siblings.proofs.Owners.{IsLinkOf, relinks, Owner, owner_after, held_in, link_inside, held_apart, among, same_facts}
use Rattle.cfb_siblings.proofs.Colors.{black_relinked, colored_relinked}
use Rattle.cfb_siblings.proofs.Same.{changed_same, object_found, own_unique}
use Rattle.cfb_siblings.proofs.Trees.{HoldsJust, Storing, storing, storing_once}

-- two of a list without repetition: one stands before or behind the other
beside : (xs : List ℕ) (k : ℕ) (ys front : List ℕ) (id : ℕ) (back : List ℕ) → xs ++ k ∷ ys ≡ front ++ id ∷ back → (k ≡ id → ⊥)
    → ((us : List ℕ) × (vs : List ℕ) × (front ≡ us ++ k ∷ vs)) ⊎ ((us : List ℕ) × (vs : List ℕ) × (back ≡ us ++ k ∷ vs))
beside [] k ys [] id back same other = absurd (other (cc))
beside [] k ys (f ∷ front) id back same other = inl ([], front, (cc))
beside (x ∷ xs) k ys [] id back same other = inr (xs, ys, (cc))
beside (x ∷ xs) k ys (f ∷ front) id back same other =
    let first : x ≡ f = cc in
    let rest : xs ++ k ∷ ys ≡ front ++ id ∷ back = cc in
    elim (beside xs k ys front id back rest other) [
      | inl it ↦ inl (f ∷ it.0, it.1, ap (λ zs. f ∷ zs) it.2)
      | inr it ↦ inr it
    ]

facts_then : (e f g : Entry) → HasSameFacts e f → HasSameFacts f g → HasSameFacts e g
facts_then e f g first second = record {
  name_units = second.name_units ∙ first.name_units;
  name_len = second.name_len ∙ first.name_len;
  kind = second.kind ∙ first.kind;
  facts = second.facts ∙ first.facts;
}

module _ (letters : CaseTable) (Reads : Entry → List ℕ → Type 0) (by_place : ReadsByPlace Reads) (old : List Entry) (tree : Tree) (path : Path) (p : ℕ)
    (h : EntriesHoldTree letters Reads old tree) (s : IsStorageAt letters old path p) where
  pub st : Storing old Reads Reads letters tree path p h.ids
  st = storing old Reads Reads letters tree h path p s

  once : IsDistinct nat_eq (p ∷ st.within)
  once = storing_once old Reads Reads letters tree path p h.ids st h.once

  pub p_apart : IsApart p st.within
  unfolding IsDistinct
  p_apart = once.0

  within_once : IsDistinct nat_eq st.within
  unfolding IsDistinct
  within_once = once.1

  pub ids_once : IsDistinct nat_eq st.children
  ids_once = siblings_distinct old Reads st.inside st.children st.within st.holds within_once

  pub p_children : IsApart p st.children
  p_children = outermost old old Reads Reads (λ k. nat_eq p k ≡ false) st.inside st.children st.within st.holds p_apart

  -- what one of the children has inside
  module _ (id : ℕ) (front back : List ℕ) (ids_are : st.children ≡ front ++ id ∷ back) (own : List ℕ) (o : Object) (is : IsObject old Reads id o own) where
    own_apart : IsApart id own
    own_apart =
        let parts = halves old Reads front (id ∷ back) st.inside st.within (subst (λ ids. Holds old Reads ids st.inside st.within) ids_are st.holds) in
        let here = headed old Reads id back parts.second parts.second_all parts.holds_second in
        let all_is : st.within ≡ parts.first_all ++ id ∷ (here.own ++ here.rest) = parts.all_is ∙ ap (λ xs. parts.first_all ++ xs) here.all_is in
        let apart = apart_in parts.first_all id (here.own ++ here.rest) (subst (IsDistinct nat_eq) all_is within_once) in
        subst (IsApart id) (own_unique old Reads id here.object o here.own own here.is_object is)
        ((all_parts (λ k. nat_eq id k ≡ false) here.own here.rest apart.1).0)

    other_apart : (k : ℕ) (xs ys : List ℕ) → st.children ≡ xs ++ k ∷ ys → (k ≡ id → ⊥) → IsApart k own
    other_apart k xs ys there other =
        let parts = halves old Reads front (id ∷ back) st.inside st.within (subst (λ ids. Holds old Reads ids st.inside st.within) ids_are st.holds) in
        let here = headed old Reads id back parts.second parts.second_all parts.holds_second in
        let all_is : st.within ≡ parts.first_all ++ id ∷ (here.own ++ here.rest) = parts.all_is ∙ ap (λ xs. parts.first_all ++ xs) here.all_is in
        let whole = subst (IsDistinct nat_eq) all_is within_once in
        subst (IsApart k) (own_unique old Reads id here.object o here.own own here.is_object is)
        (elim (beside xs k ys front id back (sym there ∙ ids_are) other) [
          | inl it ↦
              let at = among old Reads k it.0 it.1 parts.first parts.first_all (subst (λ zs. Holds old Reads zs parts.first parts.first_all) it.2 parts.holds_first) in
              let rest = held_apart k at.0 at.1 parts.first_all (id ∷ (here.own ++ here.rest)) at.2 whole in
              (all_parts (λ j. nat_eq k j ≡ false) here.own here.rest rest.1).0
          | inr it ↦
              let at = among old Reads k it.0 it.1 here.later here.rest (subst (λ zs. Holds old Reads zs here.later here.rest) it.2 here.holds_later) in
              let tail = (distinct_parts (parts.first_all ++ id ∷ []) (here.own ++ here.rest) (subst (IsDistinct nat_eq) (simp append_assoc refl) whole)).1 in
              held_apart k at.0 at.1 here.rest here.own at.2 (distinct_swap here.own here.rest tail)
        ])

    placed_apart_own : (link : Link) → IsPlaced link st.children st.within → IsLinkOf p link → (holder link ≡ id → ⊥) → IsApart (holder link) own
    placed_apart_own (Child k) place is_link other =
        let parts = halves old Reads front (id ∷ back) st.inside st.within (subst (λ ids. Holds old Reads ids st.inside st.within) ids_are st.holds) in
        let here = headed old Reads id back parts.second parts.second_all parts.holds_second in
        let all_is : st.within ≡ parts.first_all ++ id ∷ (here.own ++ here.rest) = parts.all_is ∙ ap (λ xs. parts.first_all ++ xs) here.all_is in
        let apart = all_parts (λ j. nat_eq k j ≡ false) parts.first_all (id ∷ (here.own ++ here.rest)) (subst (IsApart k) all_is place) in
        subst (IsApart k) (own_unique old Reads id here.object o here.own own here.is_object is)
        ((all_parts (λ j. nat_eq k j ≡ false) here.own here.rest apart.1.1).0)
    placed_apart_own (Left k) (xs, ys, there) is_link other = other_apart k xs ys there other
    placed_apart_own (Right k) (xs, ys, there) is_link other = other_apart k xs ys there other

  -- what stays while links among the storage's children are set
  pub record Kept (now : List Entry) (child : ℕ) : Type 0 where
    pub owner : Owner now p st.entry child
    pub sooner : AllStay old now Reads Reads st.sooner
    pub further : AllStay old now Reads Reads st.further
    pub holds : Holds now Reads st.children st.inside st.within
    pub facts : (k : ℕ) (e : Entry) → slice_get old k ≡ Some e → (f : Entry) × (slice_get now k ≡ Some f) × HasSameFacts e f
    pub objects : (id : ℕ) (front back : List ℕ) → st.children ≡ front ++ id ∷ back → (o : Object) (own : List ℕ)
        → IsObject old Reads id o own → IsObject now Reads id o own
    pub black : (k : ℕ) → IsBlackAt old k → IsBlackAt now k
    pub colored : (k : ℕ) → IsColored old k → IsColored now k

  all_same : (ids : List ℕ) → AllStay old old Reads Reads ids
  all_same [] = tt
  all_same (id ∷ ids) = (
    λ e is. record { now = e; found = is; same = same_facts e; left = refl; right = refl; child = refl; reads = λ bytes r. r },
    all_same ids,
  )

  pub kept_first : Kept old st.entry.child
  kept_first = record {
    owner = record { now = st.entry; found = st.found; same = same_facts st.entry; left = refl; right = refl; child_is = refl };
    sooner = all_same st.sooner;
    further = all_same st.further;
    holds = st.holds;
    facts = λ k e found. (e, found, same_facts e);
    objects = λ id front back ids_are o own is. is;
    black = λ k is. is;
    colored = λ k is. is;
  }

  module _ (now : List Entry) (child : ℕ) (kept : Kept now child) (link : Link) (target : ℕ) (place : IsPlaced link st.children st.within)
      (own_link : IsLinkOf p link) (has : HasEntry now (holder link)) where
    abbrev next : List Entry
    next = relinked link target now

    pub step : Relinks now next link target
    step = relinks now link target has

    beyond_apart : IsApart (holder link) st.sooner × IsApart (holder link) st.further
    beyond_apart = all_parts (λ k. nat_eq (holder link) k ≡ false) st.sooner st.further
        (link_inside Reads st.sooner st.further p link st.within own_link (subst (IsDistinct nat_eq) st.all_is h.once)
        (held_in old Reads link st.children st.inside st.within st.holds place))

    still : (ids : List ℕ) → AllStay old now Reads Reads ids → IsApart (holder link) ids → AllStay old next Reads Reads ids
    still ids before apart = stay_then old now next Reads Reads Reads ids before (stay_apart now next Reads Reads (holder link) ids step.only (λ e bytes r. r) apart)

    facts_next : (k : ℕ) (e : Entry) → slice_get old k ≡ Some e → (f : Entry) × (slice_get next k ≡ Some f) × HasSameFacts e f
    facts_next k e found =
        let before = kept.facts k e found in
        elim (either_same (holder link) k) [
          | inl same ↦
              let was : before.0 ≡ step.was = Some_same (sym before.1 ∙ ap (slice_get now) (sym same) ∙ step.was_found) in
              (step.now, ap (slice_get next) (sym same) ∙ step.now_found, facts_then e step.was step.now (subst (HasSameFacts e) was before.2) step.same)
          | inr other ↦ (before.0, step.only k before.0 other before.1, before.2)
        ]

    -- only a link of a sibling is one of the children's
    child_stays : (other : Link) (id : ℕ) → IsPlaced other st.children st.within → holder other ≡ id → IsApart p st.children → IsLinkOf p other
        → (xs ys : List ℕ) → st.children ≡ xs ++ id ∷ ys → Relinks now next other target → (e f : Entry) → slice_get now id ≡ Some e → slice_get next id ≡ Some f
        → f.child ≡ e.child
    child_stays (Child k) id place same apart is_link xs ys there r e f was is =
        let parts = all_parts (λ j. nat_eq p j ≡ false) xs (id ∷ ys) (subst (IsApart p) there apart) in
        absurd (let never : id ≡ p = sym same ∙ is_link in let other : nat_eq p id ≡ false = parts.1.0 in grind arith)
    child_stays (Left k) id place same apart is_link xs ys there r e f was is =
        let one : r.was ≡ e = Some_same (sym r.was_found ∙ ap (slice_get now) same ∙ was) in
        let two : r.now ≡ f = Some_same (sym r.now_found ∙ ap (slice_get next) same ∙ is) in
        ap (λ y. y.child) (sym two) ∙ r.leads.2 ∙ ap (λ y. y.child) one
    child_stays (Right k) id place same apart is_link xs ys there r e f was is =
        let one : r.was ≡ e = Some_same (sym r.was_found ∙ ap (slice_get now) same ∙ was) in
        let two : r.now ≡ f = Some_same (sym r.now_found ∙ ap (slice_get next) same ∙ is) in
        ap (λ y. y.child) (sym two) ∙ r.leads.2 ∙ ap (λ y. y.child) one

    objects_next : (id : ℕ) (front back : List ℕ) → st.children ≡ front ++ id ∷ back → (o : Object) (own : List ℕ)
        → IsObject old Reads id o own → IsObject next Reads id o own
    objects_next id front back ids_are o own is =
        let before = kept.objects id front back ids_are o own is in
        let there = object_found now Reads id o own before in
        elim (either_same (holder link) id) [
          | inl same ↦
              let was : slice_get now id ≡ Some step.was = ap (slice_get now) (sym same) ∙ step.was_found in
              let after : slice_get next id ≡ Some step.now = ap (slice_get next) (sym same) ∙ step.now_found in
              object_stays now next Reads Reads id o own step.was step.now was after step.same
              (child_stays link id place same p_children own_link front back ids_are step step.was step.now was after)
              (λ bytes r. by_place step.was step.now bytes step.start step.size r)
              (stay_apart now next Reads Reads (holder link) own step.only (λ e bytes r. r)
              (subst (λ k. IsApart k own) (sym same) (own_apart id front back ids_are own o is))) before
          | inr other ↦
              object_stays now next Reads Reads id o own there.0 there.0 there.1 (step.only id there.0 other there.1) (same_facts there.0) refl (λ bytes r. r)
              (stay_apart now next Reads Reads (holder link) own step.only (λ e bytes r. r)
              (placed_apart_own id front back ids_are own o is link place own_link (λ same. let never = other in grind arith))) before
        ]

    pub kept_next : Kept next (root_after link child target)
    kept_next =
        let after = owner_after now next p kept.owner.now link target step own_link kept.owner.found in
        record {
          owner = record {
            now = after.now;
            found = after.found;
            same = facts_then st.entry kept.owner.now after.now kept.owner.same after.same;
            left = after.left ∙ kept.owner.left;
            right = after.right ∙ kept.owner.right;
            child_is = after.child_is ∙ ap (λ c. root_after link c target) kept.owner.child_is;
          };
          sooner = still st.sooner kept.sooner beyond_apart.0;
          further = still st.further kept.further beyond_apart.1;
          holds = holds_relinked now next Reads by_place link target st.children st.inside st.within step place within_once kept.holds;
          facts = facts_next;
          objects = objects_next;
          black = λ k is. black_relinked now link target k (kept.black k is);
          colored = λ k is. colored_relinked now link target k (kept.colored k is);
        }

  -- LAW: what such entries hold where the children are the same siblings still
  module _ (now : List Entry) (child : ℕ) (kept : Kept now child) (siblings : Siblings now child st.children) where
    abbrev pub owner_now : IsOwner now p
    owner_now = record {
      entry = kept.owner.now;
      found = kept.owner.found;
      holds = λ kind. s.owner.holds (ap (λ y. y.kind) (Some_same (sym s.owner.found ∙ st.found)) ∙ sym kept.owner.same.kind ∙ kind);
    }

    siblings_now : Siblings now kept.owner.now.child st.children
    siblings_now = subst (λ k. Siblings now k st.children) (sym kept.owner.child_is) siblings

    all_held : HoldsJust letters Reads now tree (st.sooner ++ p ∷ (st.within ++ st.further))
    all_held = subst (λ t. HoldsJust letters Reads now t (st.sooner ++ p ∷ (st.within ++ st.further))) (changed_same letters path tree)
        (st.changed_so now (λ c. c) st.within st.children kept.owner.now kept.owner.found kept.owner.same kept.owner.left kept.owner.right kept.sooner kept.further
        siblings_now kept.holds (subst (IsDistinct nat_eq) st.all_is h.once) st.ordered)

    led : LeadsTo letters now 0 path p × ((way : List ℕ) → LeadsBy letters old 0 path way → LeadsBy letters now 0 path way)
    led = st.leads_so now kept.owner.now kept.owner.found kept.owner.same kept.owner.left kept.owner.right kept.sooner kept.further

    children_are : (name : List ℕ) (id : ℕ) (it : IsChild letters old p name id) → st.children ≡ it.front ++ id ∷ it.back
    children_are name id it = siblings_unique st.siblings
        (subst (λ y. Siblings old y.child (it.front ++ id ∷ it.back)) (Some_same (sym it.owner.found ∙ st.found)) it.siblings)

    child_now : (name : List ℕ) (id : ℕ) → IsChild letters old p name id → IsChild letters now p name id
    child_now name id it =
        let after = kept.facts id it.named.entry it.named.found in
        record {
          owner = owner_now;
          front = it.front;
          back = it.back;
          siblings = subst (Siblings now kept.owner.now.child) (children_are name id it) siblings_now;
          named = record {
            entry = after.0;
            found = after.1;
            name = it.named.name;
            named = name_stays it.named.entry after.0 it.named.name after.2 it.named.named;
            compared = it.named.compared;
          };
        }

    pub holds_still : HoldsStill letters Reads old now tree h.ids path p
    holds_still = record {
      holds = record {
        holds = all_held.holds;
        ids_are = let whole : 0 ∷ all_held.holds.ids ≡ 0 ∷ h.ids = all_held.all_is ∙ sym st.all_is in cc;
      };
      storage = record { leads = led.0; owner = owner_now };
      ways = led.1;
      children = child_now;
      objects = λ name id o own it is. kept.objects id it.front it.back (children_are name id it) o own is;
      colors = λ right. (kept.black 0 right.0, all_map (IsColored old) (IsColored now) h.ids kept.colored right.1);
    }
