-- What siblings hold stays when the link of one of them changes.
use Rattle.std.proofs.Common.{◌≡◌, ℕ, false, List, ◌∷◌, ◌++◌, refl, sym, ◌∙◌, ap, subst, append_assoc}
use Rattle.std.specs.Prelude.{slice_get, Some, nat_eq}
use Rattle.std.specs.List.{IsDistinct}
use Rattle.cfb_tree.specs.Tree.{Content, nothing, stream, storage}
use Rattle.cfb_tree.specs.Directory.{Entry, Siblings, Holds, HasName}
use Rattle.cfb_tree.proofs.OneContent.{Some_same}
use Rattle.cfb_tree.specs.Objects.{Object, a_stream, a_storage, before, joined_contents, IsObject}
use Rattle.cfb_siblings.proofs.Parts.{ChangesOnly, HasSameFacts, Stays, AllStay, ReadsByPlace, Relinks, IsOutside, IsPlaced}
use Rattle.cfb_siblings.specs.declared.links.Link.{Link}
use Rattle.cfb_siblings.specs.declared.links.Link.TheVariants.{Child, Left, Right}
use Rattle.cfb_siblings.specs.Places.{Hangs, first, to_left, to_right}
use Rattle.cfb_siblings.proofs.Lists.{all_parts, apart_in, distinct_parts}
use Rattle.cfb_siblings.proofs.Frames.{name_stays, outermost, siblings_stay, holds_stays, holds_apart, stay_apart}
use Rattle.cfb_siblings.proofs.Joining.{halves, join, headed, head}

-- an object stays where its name, kind, facts, child and bytes do, and what it has inside
pub object_stays : (old new : List Entry) (Reads Reads' : Entry → List ℕ → Type 0) (p : ℕ) (o : Object) (own : List ℕ) (e f : Entry)
    → slice_get old p ≡ Some e → slice_get new p ≡ Some f → HasSameFacts e f → f.child ≡ e.child
    → ((bytes : List ℕ) → Reads e bytes → Reads' f bytes) → AllStay old new Reads Reads' own
    → IsObject old Reads p o own → IsObject new Reads' p o own
object_stays old new Reads Reads' p (a_stream n s x) own e f was now same child reads inside (g, at, has, empty) =
    let is : g ≡ e = Some_same (sym at.found ∙ was) in (
      f,
      record {
        found = now;
        of_kind = same.kind ∙ ap (λ y. y.kind) (sym is) ∙ at.of_kind;
        named = name_stays e f n same (subst (λ y. HasName y n) is at.named);
        bits = ap (λ y. y.state_bits) same.facts ∙ ap (λ y. y.facts.state_bits) (sym is) ∙ at.bits;
      },
      reads x (subst (λ y. Reads y x) is has),
      empty,
    )
object_stays old new Reads Reads' p (a_storage n h i) own e f was now same child reads inside (g, children, at, siblings, holds) =
    let is : g ≡ e = Some_same (sym at.found ∙ was) in
    let ids = outermost old new Reads Reads' (λ k. (e : Entry) → slice_get old k ≡ Some e → Stays old new Reads Reads' k e) i children own holds inside in (
      f,
      children,
      record {
        found = now;
        of_kind = same.kind ∙ ap (λ y. y.kind) (sym is) ∙ at.of_kind;
        named = name_stays e f n same (subst (λ y. HasName y n) is at.named);
        has_facts = same.facts ∙ ap (λ y. y.facts) (sym is) ∙ at.has_facts;
      },
      rw child (subst (λ y. Siblings new y.child children) is (siblings_stay old new Reads Reads' g.child children ids siblings)),
      holds_stays old new Reads Reads' i children own inside holds,
    )

module _ (directory : List Entry) (Reads : Entry → List ℕ → Type 0) where
  -- siblings are distinct where the entries at all depths are
  pub siblings_distinct : (c : Content) (ids all : List ℕ) → Holds directory Reads ids c all → IsDistinct nat_eq all → IsDistinct nat_eq ids
  unfolding IsDistinct
  siblings_distinct nothing ids all (is, empty) h = subst (IsDistinct nat_eq) (sym is) tt
  siblings_distinct (stream n b x l) ids all (e, id, others, rest, is, all_is, at, reads, later) h =
      let here = subst (IsDistinct nat_eq) all_is h in
      subst (IsDistinct nat_eq) (sym is)
      (outermost directory directory Reads Reads (λ k. nat_eq id k ≡ false) l others rest later here.0, siblings_distinct l others rest later here.1)
  siblings_distinct (storage n f i l) ids all (e, id, others, children, within, rest, is, all_is, at, siblings, inside, later) h =
      let here = subst (IsDistinct nat_eq) all_is h in
      let apart = all_parts (λ k. nat_eq id k ≡ false) within rest here.0 in
      subst (IsDistinct nat_eq) (sym is) (
        outermost directory directory Reads Reads (λ k. nat_eq id k ≡ false) l others rest later apart.1,
        siblings_distinct l others rest later ((distinct_parts within rest here.1).1),
      )

-- the holder of a link at which the walk came out is placed
pub placed : (directory : List Entry) (owner root : ℕ) (link : Link) (at : ℕ) (front here back all : List ℕ) → Hangs directory owner root link at front back
    → IsOutside link all → IsPlaced link (front ++ (here ++ back)) all
placed directory owner root link at front here back all (first link_is at_is front_is back_is) outside =
    rw link_is (rw link_is at outside)
placed directory owner root link at front here back all (to_left outer id e after rest walk fits found right link_is at_is back_is) outside =
    rw link_is (front ++ here, after ++ rest, rw back_is (simp append_assoc refl))
placed directory owner root link at front here back all (to_right outer id e before rest walk fits found left link_is at_is front_is) outside =
    rw link_is (rest ++ before, here ++ back, rw front_is (simp append_assoc refl))

module _ (old new : List Entry) (Reads : Entry → List ℕ → Type 0) (by_place : ReadsByPlace Reads) where
  sibling_relinked : (p : ℕ) (front back : List ℕ) (c : Content) (all : List ℕ) (e f : Entry) → ChangesOnly p old new
      → slice_get old p ≡ Some e → slice_get new p ≡ Some f → HasSameFacts e f → f.child ≡ e.child → f.start ≡ e.start → f.size ≡ e.size
      → IsDistinct nat_eq all → Holds old Reads (front ++ p ∷ back) c all → Holds new Reads (front ++ p ∷ back) c all
  sibling_relinked p front back c all e f only was now same child start size once h =
      let parts = halves old Reads front (p ∷ back) c all h in
      let own = headed old Reads p back parts.second parts.second_all parts.holds_second in
      let all_is : all ≡ parts.first_all ++ p ∷ (own.own ++ own.rest) = parts.all_is ∙ ap (λ ids. parts.first_all ++ ids) own.all_is in
      let apart = apart_in parts.first_all p (own.own ++ own.rest) (subst (IsDistinct nat_eq) all_is once) in
      let behind = all_parts (λ k. nat_eq p k ≡ false) own.own own.rest apart.1 in
      let same_reads = λ (g : Entry) (bytes : List ℕ) (r : Reads g bytes). by_place g g bytes refl refl r in
      let object = object_stays old new Reads Reads p own.object own.own e f was now same child (λ bytes r. by_place e f bytes start size r)
      (stay_apart old new Reads Reads p own.own only same_reads behind.0) own.is_object in
      subst (λ d. Holds new Reads (front ++ p ∷ back) d all) (sym (parts.content_is ∙ ap (joined_contents parts.first) own.content_is))
      (subst (Holds new Reads (front ++ p ∷ back) (joined_contents parts.first (before own.object own.later))) (sym all_is)
      (join new Reads front (p ∷ back) parts.first (before own.object own.later) parts.first_all (p ∷ (own.own ++ own.rest))
      (holds_apart old new Reads Reads p parts.first front parts.first_all only same_reads apart.0 parts.holds_first)
      (head new Reads p back own.object own.later own.own own.rest object
      (holds_apart old new Reads Reads p own.later back own.rest only same_reads behind.1 own.holds_later))))

  -- siblings hold what they held after a link was made to lead elsewhere
  pub holds_relinked : (link : Link) (target : ℕ) (ids : List ℕ) (c : Content) (all : List ℕ) → Relinks old new link target
      → IsPlaced link ids all → IsDistinct nat_eq all → Holds old Reads ids c all → Holds new Reads ids c all
  holds_relinked (Child id) target ids c all r place once h =
      holds_apart old new Reads Reads id c ids all r.only (λ e bytes x. x) place h
  holds_relinked (Left id) target ids c all r (xs, ys, is) once h =
      rw is (sibling_relinked id xs ys c all r.was r.now r.only r.was_found r.now_found r.same r.leads.2 r.start r.size once (rw is at h))
  holds_relinked (Right id) target ids c all r (xs, ys, is) once h =
      rw is (sibling_relinked id xs ys c all r.was r.now r.only r.was_found r.now_found r.same r.leads.2 r.start r.size once (rw is at h))
