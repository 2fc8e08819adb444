-- An entry is taken out of its siblings: those on its left take its place, those on its right hang at the end of these.
use Rattle.std.proofs.Common.{◌≡◌, ℕ, false, List, [], ◌∷◌, ◌++◌, refl, sym, ◌∙◌, ap, subst, append_assoc, append-nil}
use Rattle.std.specs.Prelude.{nat_eq}
use Rattle.std.specs.List.{IsDistinct}
use Rattle.cfb_tree.specs.Names.{CaseTable}
use Rattle.cfb_tree.specs.Tree.{Content}
use Rattle.cfb_tree.specs.Directory.{Entry, Siblings, Holds, no_entry}
use Rattle.cfb_tree.proofs.NamesRead.{all_append}
use Rattle.cfb_tree.specs.Objects.{before, joined_contents}
use Rattle.cfb_tree.specs.Changes.{without_child}
use Rattle.cfb_siblings.specs.Changes.{IsApart}
use Rattle.cfb_siblings.proofs.Parts.{ChangesOnly, ReadsByPlace, Relinks, root_after, IsOutside, IsPlaced}
use Rattle.cfb_siblings.specs.declared.links.Link.{Link}
use Rattle.cfb_siblings.specs.declared.links.Link.TheVariants.{Child, Left, Right}
use Rattle.cfb_siblings.specs.Links.{holder}
use Rattle.cfb_siblings.specs.Places.{Hangs}
use Rattle.cfb_siblings.proofs.Records.{Found}
use Rattle.cfb_siblings.proofs.Lists.{all_parts, apart_in, distinct_parts, distinct_without, distinct_swap, distinct_moved}
use Rattle.cfb_siblings.proofs.Frames.{outermost, holds_apart, siblings_apart}
use Rattle.cfb_siblings.proofs.Joining.{join}
use Rattle.cfb_siblings.proofs.Naming.{without_past, without_here}
use Rattle.cfb_siblings.proofs.Relinking.{hangs_apart, siblings_relinked}
use Rattle.cfb_siblings.proofs.Objects.{siblings_distinct, placed, holds_relinked}

one_apart : (id : ℕ) (xs ys ids others : List ℕ) → ids ≡ xs ++ id ∷ ys → IsDistinct nat_eq (ids ++ others) → IsApart id others
one_apart id xs ys ids others is once =
    let whole : IsDistinct nat_eq (xs ++ id ∷ (ys ++ others)) =
    subst (IsDistinct nat_eq) (append_assoc xs (id ∷ ys) others) (subst (λ zs. IsDistinct nat_eq (zs ++ others)) is once) in
    (all_parts (λ k. nat_eq id k ≡ false) ys others ((apart_in xs id (ys ++ others) whole).1)).1

-- a placed holder is apart from what is apart from its siblings
pub placed_apart : (link : Link) (ids others all : List ℕ) → IsPlaced link ids all → IsOutside link others → IsDistinct nat_eq (ids ++ others)
    → IsApart (holder link) others
placed_apart (Child id) ids others all place outside once = outside
placed_apart (Left id) ids others all (xs, ys, is) outside once = one_apart id xs ys ids others is once
placed_apart (Right id) ids others all (xs, ys, is) outside once = one_apart id xs ys ids others is once

widened : (front lefts rights back xs : List ℕ) (id : ℕ) (ys : List ℕ) → lefts ≡ xs ++ id ∷ ys
    → front ++ ((lefts ++ rights) ++ back) ≡ (front ++ xs) ++ id ∷ (ys ++ (rights ++ back))
widened front lefts rights back xs id ys is = rw is (simp append_assoc refl)

-- outside of all is outside of the outermost
outside_ids : (directory : List Entry) (Reads : Entry → List ℕ → Type 0) (link : Link) (c : Content) (ids all : List ℕ)
    → Holds directory Reads ids c all → IsOutside link all → IsOutside link ids
outside_ids directory Reads (Child id) c ids all h outside = outermost directory directory Reads Reads (λ k. nat_eq id k ≡ false) c ids all h outside
outside_ids directory Reads (Left id) c ids all h outside = tt
outside_ids directory Reads (Right id) c ids all h outside = tt

outside_midst : (link : Link) (xs ms ys : List ℕ) → IsOutside link (xs ++ (ms ++ ys)) → IsOutside link ms × IsOutside link (xs ++ ys)
outside_midst (Child id) xs ms ys h =
    let parts = all_parts (λ k. nat_eq id k ≡ false) xs (ms ++ ys) h in
    let behind = all_parts (λ k. nat_eq id k ≡ false) ms ys parts.1 in
    (behind.0, all_append (λ k. nat_eq id k ≡ false) xs ys parts.0 behind.1)
outside_midst (Left id) xs ms ys h = (tt, tt)
outside_midst (Right id) xs ms ys h = (tt, tt)

module _ (old mid : List Entry) (Reads : Entry → List ℕ → Type 0) (by_place : ReadsByPlace Reads) (e : Entry)
    (front lefts rights back : List ℕ) (c : Content) (all : List ℕ) where
  -- what the first step keeps: the siblings without the one, of which those on both sides hang together
  pub record Spliced (owner root : ℕ) (link : Link) (at : ℕ) (target : ℕ) : Type 0 where
    pub joined : Siblings mid target (lefts ++ rights)
    pub hangs : Hangs mid owner root link at front back
    pub holds : Holds mid Reads (front ++ ((lefts ++ rights) ++ back)) c all

  spliced_within : (owner root : ℕ) (link : Link) (at start : ℕ) (inner : Link) → Relinks old mid inner e.right → IsPlaced inner lefts all → IsOutside inner (front ++ (rights ++ back))
      → Hangs old start e.left inner no_entry lefts [] → Siblings old e.right rights → Hangs old owner root link at front back
      → IsDistinct nat_eq (front ++ ((lefts ++ rights) ++ back)) → IsDistinct nat_eq all
      → IsPlaced inner (front ++ ((lefts ++ rights) ++ back)) all
      → Holds old Reads (front ++ ((lefts ++ rights) ++ back)) c all → Spliced owner root link at (root_after inner e.left e.right)
  spliced_within owner root link at start inner r place outside deep on_right walk once all_once place_all h =
      let again : IsDistinct nat_eq (front ++ (lefts ++ (rights ++ back))) = subst (λ xs. IsDistinct nat_eq (front ++ xs)) (append_assoc lefts rights back) once in
      let turned = distinct_swap (front ++ (rights ++ back)) lefts (distinct_moved front lefts (rights ++ back) again) in
      let apart = placed_apart inner lefts (front ++ (rights ++ back)) all place outside turned in
      let parts = all_parts (λ k. nat_eq (holder inner) k ≡ false) front (rights ++ back) apart in
      let behind = all_parts (λ k. nat_eq (holder inner) k ≡ false) rights back parts.1 in
      let lefts_once : IsDistinct nat_eq (lefts ++ []) = rw append-nil ((distinct_parts lefts (front ++ (rights ++ back)) turned).0) in
      record {
        joined = subst (λ xs. Siblings mid (root_after inner e.left e.right) (lefts ++ xs)) (append-nil rights)
            (siblings_relinked old mid start e.left inner no_entry e.right lefts [] rights r deep lefts_once
            (siblings_apart old mid (holder inner) e.right rights r.only behind.0 on_right));
        hangs = hangs_apart old mid (holder inner) owner root link at front back r.only parts.0 behind.1 walk;
        holds = holds_relinked old mid Reads by_place inner e.right (front ++ ((lefts ++ rights) ++ back)) c all r place_all all_once h;
      }

  -- nothing is joined where one side has no siblings
  pub spliced_plain : (owner root : ℕ) (link : Link) (at target : ℕ) → mid ≡ old → Siblings old target (lefts ++ rights) → Hangs old owner root link at front back
      → Holds old Reads (front ++ ((lefts ++ rights) ++ back)) c all → Spliced owner root link at target
  spliced_plain owner root link at target same joined walk h = record { joined = rw same joined; hangs = rw same walk; holds = rw same h }

  -- siblings on the right hang at the end of those on the left
  pub spliced_joined : (owner root : ℕ) (link : Link) (at start last : ℕ) → Relinks old mid (Right last) e.right
      → Hangs old start e.left (Right last) no_entry lefts [] → Siblings old e.right rights → Hangs old owner root link at front back
      → IsDistinct nat_eq (front ++ ((lefts ++ rights) ++ back)) → IsDistinct nat_eq all
      → Holds old Reads (front ++ ((lefts ++ rights) ++ back)) c all → Spliced owner root link at e.left
  spliced_joined owner root link at start last r deep on_right walk once all_once h =
      let place : IsPlaced (Right last) (lefts ++ []) all = placed old start e.left (Right last) no_entry lefts [] [] all deep tt in
      let place' : IsPlaced (Right last) lefts all = subst (λ xs. IsPlaced (Right last) xs all) (append-nil lefts) place in
      spliced_within owner root link at start (Right last) r place' tt deep on_right walk once all_once
      (front ++ place'.0, place'.1 ++ (rights ++ back), widened front lefts rights back place'.0 last place'.1 place'.2) h

module _ (old : List Entry) (Reads : Entry → List ℕ → Type 0) (by_place : ReadsByPlace Reads) (letters : CaseTable)
    (wanted : List ℕ) (owner root : ℕ) (ids : List ℕ) (c : Content) (all : List ℕ) (link : Link) (at : ℕ) (e : Entry)
    (it : Found old Reads letters wanted owner root ids c all link at e) (once : IsDistinct nat_eq all) (outside : IsOutside link all) where
  -- the siblings that are left, and the entries at all depths
  abbrev rest_ids : List ℕ
  rest_ids = it.front ++ ((it.lefts ++ it.rights) ++ it.back)

  abbrev rest_all : List ℕ
  rest_all = it.chosen.earlier_all ++ it.chosen.later_all

  abbrev rest_content : Content
  rest_content = joined_contents it.chosen.earlier it.chosen.later

  all_once : IsDistinct nat_eq (it.chosen.earlier_all ++ at ∷ (it.chosen.own ++ it.chosen.later_all))
  all_once = subst (IsDistinct nat_eq) it.chosen.all_is once

  -- the rules' content
  pub removed_content : without_child letters wanted c ≡ rest_content
  removed_content = ap (without_child letters wanted) it.chosen.content_is ∙ without_past letters wanted it.chosen.earlier (before it.chosen.object it.chosen.later) it.chosen.others
      ∙ ap (joined_contents it.chosen.earlier) (without_here letters wanted it.chosen.object it.chosen.later it.chosen.level)

  pub removed_once : IsDistinct nat_eq rest_all
  removed_once = distinct_without it.chosen.earlier_all (at ∷ it.chosen.own) it.chosen.later_all all_once

  removed_apart : IsApart at rest_all
  removed_apart =
      let apart = apart_in it.chosen.earlier_all at (it.chosen.own ++ it.chosen.later_all) all_once in
      all_append (λ k. nat_eq at k ≡ false) it.chosen.earlier_all it.chosen.later_all apart.0 ((all_parts (λ k. nat_eq at k ≡ false) it.chosen.own it.chosen.later_all apart.1).1)

  rest_outside : IsOutside link rest_all
  rest_outside = (outside_midst link it.chosen.earlier_all (at ∷ it.chosen.own) it.chosen.later_all (subst (IsOutside link) it.chosen.all_is outside)).1

  pub rest_held : Holds old Reads rest_ids rest_content rest_all
  rest_held = subst (λ xs. Holds old Reads xs rest_content rest_all)
      (ap (λ xs. xs ++ it.chosen.back) it.chosen_front ∙ ap (λ ys. (it.front ++ it.lefts) ++ ys) it.chosen_back ∙ simp append_assoc refl)
      (join old Reads it.chosen.front it.chosen.back it.chosen.earlier it.chosen.later it.chosen.earlier_all it.chosen.later_all
      it.chosen.holds_earlier it.chosen.holds_later)

  pub rest_once : IsDistinct nat_eq rest_ids
  rest_once = siblings_distinct old Reads rest_content rest_ids rest_all rest_held removed_once

  -- the entries where both sides hang together, and the link leads to them, and the entry is cleared
  module _ (mid new last : List Entry) (target : ℕ)
      (step : Spliced old mid Reads by_place e it.front it.lefts it.rights it.back rest_content rest_all owner root link at target)
      (linked : Relinks mid new link target) (cleared : ChangesOnly at new last) where
    held : Holds new Reads rest_ids rest_content rest_all
    held = holds_relinked mid new Reads by_place link target rest_ids rest_content rest_all linked
        (placed mid owner root link at it.front (it.lefts ++ it.rights) it.back rest_all step.hangs rest_outside) removed_once step.holds

    -- LAW: the storage holds the content that the rules give
    pub removed_holds : Holds last Reads rest_ids (without_child letters wanted c) rest_all
    removed_holds = subst (λ d. Holds last Reads rest_ids d rest_all) (sym removed_content)
        (holds_apart new last Reads Reads at rest_content rest_ids rest_all cleared (λ g bytes r. r) removed_apart held)

    -- LAW: its siblings are the old ones without the one
    pub removed_siblings : Siblings last (root_after link root target) rest_ids
    removed_siblings =
        let outer = outside_midst link it.front (it.lefts ++ it.rights) it.back
        (outside_ids old Reads link rest_content rest_ids rest_all rest_held rest_outside) in
        let turned = distinct_moved it.front (it.lefts ++ it.rights) it.back rest_once in
        let place = placed mid owner root link at it.front [] it.back rest_all step.hangs rest_outside in
        let apart = placed_apart link (it.front ++ it.back) (it.lefts ++ it.rights) rest_all place outer.0 turned in
        siblings_apart new last at (root_after link root target) rest_ids cleared
        (outermost old old Reads Reads (λ k. nat_eq at k ≡ false) rest_content rest_ids rest_all rest_held removed_apart)
        (siblings_relinked mid new owner root link at target it.front it.back (it.lefts ++ it.rights) linked step.hangs
        ((distinct_parts (it.front ++ it.back) (it.lefts ++ it.rights) turned).0)
        (siblings_apart mid new (holder link) target (it.lefts ++ it.rights) linked.only apart step.joined))
