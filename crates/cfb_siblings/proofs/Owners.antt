-- The storage whose children are linked otherwise, and what lies outside of it.
use Rattle.std.proofs.Common.{◌≡◌, ℕ, false, List, [], ◌∷◌, ◌++◌, refl, sym, ◌∙◌, ap, subst, append_assoc}
use Rattle.std.specs.Prelude.{slice_get, slice_set, Some, nat_eq, ⊤}
use Rattle.std.specs.List.{IsDistinct}
use Rattle.cfb_tree.specs.Tree.{Content}
use Rattle.cfb_tree.specs.Directory.{Entry, Holds}
use Rattle.cfb_tree.proofs.OneContent.{Some_same}
use Rattle.cfb_siblings.specs.Changes.{IsApart}
use Rattle.cfb_siblings.specs.Links.{holder, linked_to, with_entry, relinked}
use Rattle.cfb_siblings.specs.Places.{HasEntry, Hangs, first, to_left, to_right}
use Rattle.cfb_siblings.specs.declared.links.Link.{Link}
use Rattle.cfb_siblings.specs.declared.links.Link.TheVariants.{Child, Left, Right}
use Rattle.cfb_siblings.proofs.Parts.{HasSameFacts, Relinks, root_after, IsPlaced}
use Rattle.cfb_siblings.proofs.Lists.{all_parts, apart_in, apart_turned, distinct_swap, distinct_moved}
use Rattle.cfb_siblings.proofs.Frames.{set_changes_only, set_found}
use Rattle.cfb_siblings.proofs.Joining.{halves, headed}

-- the holder of the link where a walk ends is an entry
pub holder_found : (directory : List Entry) (owner root : ℕ) (link : Link) (at : ℕ) (front back : List ℕ)
    → Hangs directory owner root link at front back → HasEntry directory owner → HasEntry directory (holder link)
holder_found directory owner root link at front back (first link_is at_is front_is back_is) own = rw link_is own
holder_found directory owner root link at front back (to_left outer id e after rest walk fits found right link_is at_is back_is) own =
    rw link_is (e, found)
holder_found directory owner root link at front back (to_right outer id e before rest walk fits found left link_is at_is front_is) own =
    rw link_is (e, found)

relinks_set : (old : List Entry) (link : Link) (target : ℕ) (e : Entry) → slice_get old (holder link) ≡ Some e
    → Relinks old (slice_set old (holder link) (linked_to link target e)) link target
relinks_set old (Child id) target e found = record {
  only = set_changes_only old id (linked_to (Child id) target e);
  was = e;
  was_found = found;
  now = linked_to (Child id) target e;
  now_found = set_found old id e (linked_to (Child id) target e) found;
  same = record { name_units = refl; name_len = refl; kind = refl; facts = refl };
  start = refl;
  size = refl;
  leads = (refl, refl, refl);
}
relinks_set old (Left id) target e found = record {
  only = set_changes_only old id (linked_to (Left id) target e);
  was = e;
  was_found = found;
  now = linked_to (Left id) target e;
  now_found = set_found old id e (linked_to (Left id) target e) found;
  same = record { name_units = refl; name_len = refl; kind = refl; facts = refl };
  start = refl;
  size = refl;
  leads = (refl, refl, refl);
}
relinks_set old (Right id) target e found = record {
  only = set_changes_only old id (linked_to (Right id) target e);
  was = e;
  was_found = found;
  now = linked_to (Right id) target e;
  now_found = set_found old id e (linked_to (Right id) target e) found;
  same = record { name_units = refl; name_len = refl; kind = refl; facts = refl };
  start = refl;
  size = refl;
  leads = (refl, refl, refl);
}

-- setting a link of an entry that is there
pub relinks : (old : List Entry) (link : Link) (target : ℕ) → HasEntry old (holder link) → Relinks old (relinked link target old) link target
relinks old link target (e, found) = subst (λ xs. Relinks old xs link target)
    (sym (ap (with_entry old (holder link) (linked_to link target)) found)) (relinks_set old link target e found)

-- the storage p has the link to its children, or a sibling other than p has the link
abbrev pub IsLinkOf : ℕ → Link → Type 0
IsLinkOf p (Child id) = id ≡ p
IsLinkOf p (Left id) = nat_eq id p ≡ false
IsLinkOf p (Right id) = nat_eq id p ≡ false

pub link_of : (directory : List Entry) (owner root : ℕ) (link : Link) (at : ℕ) (front back : List ℕ)
    → Hangs directory owner root link at front back → IsApart owner front → IsApart owner back → IsLinkOf owner link
link_of directory owner root link at front back (first link_is at_is front_is back_is) a b = rw link_is refl
link_of directory owner root link at front back (to_left outer id e after rest walk fits found right link_is at_is back_is) a b =
    rw link_is (apart_turned owner id ((subst (IsApart owner) back_is b).0))
link_of directory owner root link at front back (to_right outer id e before rest walk fits found left link_is at_is front_is) a b =
    let here = all_parts (λ k. nat_eq owner k ≡ false) rest (before ++ id ∷ []) (subst (IsApart owner) front_is a) in
    rw link_is (apart_turned owner id ((all_parts (λ k. nat_eq owner k ≡ false) before (id ∷ []) here.1).1.0))

-- the storage after a link to or among its children was made to lead elsewhere
pub record Owner (new : List Entry) (p : ℕ) (e : Entry) (child : ℕ) : Type 0 where
  pub now : Entry
  pub found : slice_get new p ≡ Some now
  pub same : HasSameFacts e now
  pub left : now.left ≡ e.left
  pub right : now.right ≡ e.right
  pub child_is : now.child ≡ child

pub same_facts : (e : Entry) → HasSameFacts e e
same_facts e = record { name_units = refl; name_len = refl; kind = refl; facts = refl }

pub owner_after : (old new : List Entry) (p : ℕ) (e : Entry) (link : Link) (target : ℕ) → Relinks old new link target → IsLinkOf p link
    → slice_get old p ≡ Some e → Owner new p e (root_after link e.child target)
owner_after old new p e (Child id) target r own found =
    let is : r.was ≡ e = Some_same (sym r.was_found ∙ ap (slice_get old) own ∙ found) in
    subst (λ x. Owner new p x target) is record {
      now = r.now;
      found = ap (slice_get new) (sym own) ∙ r.now_found;
      same = r.same;
      left = r.leads.1;
      right = r.leads.2;
      child_is = r.leads.0;
    }
owner_after old new p e (Left id) target r own found =
    record { now = e; found = r.only p e own found; same = same_facts e; left = refl; right = refl; child_is = refl }
owner_after old new p e (Right id) target r own found =
    record { now = e; found = r.only p e own found; same = same_facts e; left = refl; right = refl; child_is = refl }

-- the holder of a link among siblings is one of these entries
abbrev pub IsHeldIn : Link → List ℕ → Type 0
IsHeldIn (Child id) within = ⊤
IsHeldIn (Left id) within = (xs : List ℕ) × (ys : List ℕ) × (within ≡ xs ++ id ∷ ys)
IsHeldIn (Right id) within = (xs : List ℕ) × (ys : List ℕ) × (within ≡ xs ++ id ∷ ys)

pub held_apart : (id : ℕ) (xs ys within others : List ℕ) → within ≡ xs ++ id ∷ ys → IsDistinct nat_eq (within ++ others) → IsApart id others
held_apart id xs ys within others is once =
    let whole : IsDistinct nat_eq (xs ++ id ∷ (ys ++ others)) =
    subst (IsDistinct nat_eq) (append_assoc xs (id ∷ ys) others) (subst (λ zs. IsDistinct nat_eq (zs ++ others)) is once) in
    (all_parts (λ k. nat_eq id k ≡ false) ys others ((apart_in xs id (ys ++ others) whole).1)).1

-- the holder of the link is apart from what lies outside of the storage
beyond : (link : Link) (p : ℕ) (within others : List ℕ) → IsLinkOf p link → IsDistinct nat_eq (p ∷ (within ++ others))
    → IsHeldIn link within → IsApart (holder link) others
unfolding IsDistinct
beyond (Child id) p within others own once held =
    subst (λ k. IsApart k others) (sym own) ((all_parts (λ k. nat_eq p k ≡ false) within others once.0).1)
beyond (Left id) p within others own once (xs, ys, is) = held_apart id xs ys within others is once.1
beyond (Right id) p within others own once (xs, ys, is) = held_apart id xs ys within others is once.1

pub among : (directory : List Entry) (Reads : Entry → List ℕ → Type 0) (id : ℕ) (xs ys : List ℕ) (c : Content) (within : List ℕ)
    → Holds directory Reads (xs ++ id ∷ ys) c within → (us : List ℕ) × (vs : List ℕ) × (within ≡ us ++ id ∷ vs)
among directory Reads id xs ys c within h =
    let parts = halves directory Reads xs (id ∷ ys) c within h in
    let own = headed directory Reads id ys parts.second parts.second_all parts.holds_second in
    (parts.first_all, own.own ++ own.rest, parts.all_is ∙ ap (λ zs. parts.first_all ++ zs) own.all_is)

pub held_in : (directory : List Entry) (Reads : Entry → List ℕ → Type 0) (link : Link) (ids : List ℕ) (c : Content) (within : List ℕ)
    → Holds directory Reads ids c within → IsPlaced link ids within → IsHeldIn link within
held_in directory Reads (Child id) ids c within h place = tt
held_in directory Reads (Left id) ids c within h (xs, ys, is) = among directory Reads id xs ys c within (rw is at h)
held_in directory Reads (Right id) ids c within h (xs, ys, is) = among directory Reads id xs ys c within (rw is at h)

module _ (Reads : Entry → List ℕ → Type 0) (sooner further : List ℕ) (p : ℕ) where
  -- the holder of such a link lies not outside
  pub link_inside : (link : Link) (within : List ℕ) → IsLinkOf p link → IsDistinct nat_eq (sooner ++ p ∷ (within ++ further)) → IsHeldIn link within
      → IsApart (holder link) (sooner ++ further)
  link_inside link within own once held =
      beyond link p within (sooner ++ further) own
      (distinct_swap (sooner ++ further) (p ∷ within) (distinct_moved sooner (p ∷ within) further once)) held
