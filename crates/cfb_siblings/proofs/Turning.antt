-- Siblings are turned: the lower one takes the place of the upper one.
use Rattle.std.proofs.Common.{◌≡◌, ℕ, ◌≤◌, false, List, ◌∷◌, ◌++◌, refl, sym, ◌∙◌, ap, subst, append_assoc}
use Rattle.std.specs.Prelude.{slice_get, Some, nat_eq}
use Rattle.std.specs.List.{IsDistinct}
use Rattle.cfb_tree.specs.Directory.{Entry, Siblings, none, some, greatest_entry, no_entry}
use Rattle.cfb_tree.proofs.OneContent.{Some_same}
use Rattle.cfb_siblings.specs.Changes.{IsApart}
use Rattle.cfb_siblings.specs.Places.{Hangs, first, to_left, to_right}
use Rattle.cfb_siblings.specs.declared.links.Link.{Link}
use Rattle.cfb_siblings.specs.declared.links.Link.TheVariants.{Left, Right}
use Rattle.cfb_siblings.proofs.Frames.{siblings_apart}
use Rattle.cfb_siblings.proofs.Lists.{all_parts, apart_in, apart_turned}
use Rattle.cfb_siblings.proofs.Parts.{ChangesOnly, Relinks, root_after}
use Rattle.cfb_siblings.proofs.Relinking.{hangs_apart}

-- what some siblings hang at is an entry
pub hung_fits : (directory : List Entry) (id : ℕ) (ids : List ℕ) → (id ≡ no_entry → ⊥) → Siblings directory id ids → id ≤ greatest_entry
hung_fits directory id ids some_entry (none is empty) = absurd (some_entry is)
hung_fits directory id ids some_entry (some e before after fits found left right whole) = fits

-- both are none of these
abbrev pub AreApart : ℕ → ℕ → List ℕ → Type 0
AreApart m n xs = IsApart m xs × IsApart n xs

-- two of the siblings, and those around and between them
pub record Two (front lefts : List ℕ) (m : ℕ) (midst : List ℕ) (n : ℕ) (rights back : List ℕ) : Type 0 where
  pub differ : nat_eq m n ≡ false
  pub in_front : AreApart m n front
  pub in_lefts : AreApart m n lefts
  pub in_midst : AreApart m n midst
  pub in_rights : AreApart m n rights
  pub in_back : AreApart m n back

pub two_apart : (front lefts : List ℕ) (m : ℕ) (midst : List ℕ) (n : ℕ) (rights back : List ℕ)
    → IsDistinct nat_eq (front ++ ((lefts ++ m ∷ (midst ++ n ∷ rights)) ++ back)) → Two front lefts m midst n rights back
two_apart front lefts m midst n rights back once =
    let a = apart_in (front ++ lefts) m (midst ++ n ∷ (rights ++ back)) (subst (IsDistinct nat_eq) (simp append_assoc refl) once) in
    let b = apart_in ((front ++ lefts) ++ m ∷ midst) n (rights ++ back) (subst (IsDistinct nat_eq) (simp append_assoc refl) once) in
    let a_before = all_parts (λ k. nat_eq m k ≡ false) front lefts a.0 in
    let a_behind = all_parts (λ k. nat_eq m k ≡ false) midst (n ∷ (rights ++ back)) a.1 in
    let a_last = all_parts (λ k. nat_eq m k ≡ false) rights back a_behind.1.1 in
    let b_sooner = all_parts (λ k. nat_eq n k ≡ false) (front ++ lefts) (m ∷ midst) b.0 in
    let b_before = all_parts (λ k. nat_eq n k ≡ false) front lefts b_sooner.0 in
    let b_last = all_parts (λ k. nat_eq n k ≡ false) rights back b.1 in
    record {
      differ = a_behind.1.0;
      in_front = (a_before.0, b_before.0);
      in_lefts = (a_before.1, b_before.1);
      in_midst = (a_behind.0, b_sooner.1.1);
      in_rights = (a_last.0, b_last.0);
      in_back = (a_last.1, b_last.1);
    }

module _ (old mid new : List Entry) (m n : ℕ) (only_n : ChangesOnly n old mid) (only_m : ChangesOnly m mid new) where
  -- siblings apart from both that change stay
  pub siblings_both : (id : ℕ) (ids : List ℕ) → AreApart m n ids → Siblings old id ids → Siblings new id ids
  siblings_both id ids apart siblings =
      siblings_apart mid new m id ids only_m apart.0 (siblings_apart old mid n id ids only_n apart.1 siblings)

  pub hangs_both : (owner root : ℕ) (link : Link) (at : ℕ) (front back : List ℕ) → AreApart m n front → AreApart m n back
      → Hangs old owner root link at front back → Hangs new owner root link at front back
  hangs_both owner root link at front back a b walk =
      hangs_apart mid new m owner root link at front back only_m a.0 b.0 (hangs_apart old mid n owner root link at front back only_n a.1 b.1 walk)

module _ (old mid new : List Entry) (upper lower : ℕ) (u l : Entry) (u_found : slice_get old upper ≡ Some u) (l_found : slice_get old lower ≡ Some l)
    (u_fits : upper ≤ greatest_entry) (l_fits : lower ≤ greatest_entry) (front lefts midst rights back : List ℕ) where
  -- the left sibling is raised
  pub left_raised : Relinks old mid (Left upper) l.right → Relinks mid new (Right lower) upper → Two front lefts lower midst upper rights back
      → Siblings old l.left lefts → Siblings old l.right midst → Siblings old u.right rights
      → Siblings new lower (lefts ++ lower ∷ (midst ++ upper ∷ rights))
  left_raised r s two on_left between on_right =
      let stay = siblings_both old mid new lower upper r.only s.only in
      let u_was : r.was ≡ u = Some_same (sym r.was_found ∙ u_found) in
      let l_was : s.was ≡ l = Some_same (sym s.was_found ∙ r.only lower l (apart_turned lower upper two.differ) l_found) in
      some s.now lefts (midst ++ upper ∷ rights) l_fits s.now_found
      (subst (λ k. Siblings new k lefts) (sym (s.leads.1 ∙ ap (λ y. y.left) l_was)) (stay l.left lefts two.in_lefts on_left))
      (subst (λ k. Siblings new k (midst ++ upper ∷ rights)) (sym s.leads.0)
      (some r.now midst rights u_fits (s.only upper r.now two.differ r.now_found)
      (subst (λ k. Siblings new k midst) (sym r.leads.0) (stay l.right midst two.in_midst between))
      (subst (λ k. Siblings new k rights) (sym (r.leads.1 ∙ ap (λ y. y.right) u_was)) (stay u.right rights two.in_rights on_right)) refl)) refl

  -- the right sibling is raised
  pub right_raised : Relinks old mid (Right upper) l.left → Relinks mid new (Left lower) upper → Two front lefts upper midst lower rights back
      → Siblings old u.left lefts → Siblings old l.left midst → Siblings old l.right rights
      → Siblings new lower ((lefts ++ upper ∷ midst) ++ lower ∷ rights)
  right_raised r s two on_left between on_right =
      let turn : (xs : List ℕ) → AreApart upper lower xs → AreApart lower upper xs = λ xs both. (both.1, both.0) in
      let stay = siblings_both old mid new lower upper r.only s.only in
      let u_was : r.was ≡ u = Some_same (sym r.was_found ∙ u_found) in
      let l_was : s.was ≡ l = Some_same (sym s.was_found ∙ r.only lower l two.differ l_found) in
      some s.now (lefts ++ upper ∷ midst) rights l_fits s.now_found
      (subst (λ k. Siblings new k (lefts ++ upper ∷ midst)) (sym s.leads.0)
      (some r.now lefts midst u_fits (s.only upper r.now (apart_turned upper lower two.differ) r.now_found)
      (subst (λ k. Siblings new k lefts) (sym (r.leads.1 ∙ ap (λ y. y.left) u_was)) (stay u.left lefts (turn lefts two.in_lefts) on_left))
      (subst (λ k. Siblings new k midst) (sym r.leads.0) (stay l.left midst (turn midst two.in_midst) between)) refl))
      (subst (λ k. Siblings new k rights) (sym (s.leads.1 ∙ ap (λ y. y.right) l_was)) (stay l.right rights (turn rights two.in_rights) on_right)) refl

-- the walk comes over the link that changed to what it was made to lead to
pub hangs_relinked : (old new : List Entry) (owner root : ℕ) (link : Link) (at target : ℕ) (front back : List ℕ) → Relinks old new link target
    → Hangs old owner root link at front back → IsDistinct nat_eq (front ++ back) → Hangs new owner (root_after link root target) link target front back
hangs_relinked old new owner root link at target front back r (first link_is at_is front_is back_is) once =
    first link_is (rw link_is refl) front_is back_is
hangs_relinked old new owner root link at target front back r (to_left outer id e after rest walk fits found right link_is at_is back_is) once =
    let s : Relinks old new (Left id) target = subst (λ l. Relinks old new l target) link_is r in
    let apart = apart_in front id (after ++ rest) (subst (λ ids. IsDistinct nat_eq (front ++ ids)) back_is once) in
    let parts = all_parts (λ k. nat_eq id k ≡ false) after rest apart.1 in
    let was : s.was ≡ e = Some_same (sym s.was_found ∙ found) in
    let right' : Siblings new s.now.right after =
    subst (λ t. Siblings new t after) (sym (s.leads.1 ∙ ap (λ x. x.right) was)) (siblings_apart old new id e.right after s.only parts.0 right) in
    let there : Hangs new owner root link target front back =
    to_left outer id s.now after rest (hangs_apart old new id owner root outer id front rest s.only apart.0 parts.1 walk) fits s.now_found right' link_is (sym s.leads.0) back_is in
    rw link_is (subst (λ l. Hangs new owner root l target front back) link_is there)
hangs_relinked old new owner root link at target front back r (to_right outer id e before rest walk fits found left link_is at_is front_is) once =
    let s : Relinks old new (Right id) target = subst (λ l. Relinks old new l target) link_is r in
    let whole_once : IsDistinct nat_eq ((rest ++ before) ++ id ∷ back) =
    subst (IsDistinct nat_eq) (ap (λ xs. xs ++ back) front_is ∙ simp append_assoc refl) once in
    let apart = apart_in (rest ++ before) id back whole_once in
    let parts = all_parts (λ k. nat_eq id k ≡ false) rest before apart.0 in
    let was : s.was ≡ e = Some_same (sym s.was_found ∙ found) in
    let left' : Siblings new s.now.left before =
    subst (λ t. Siblings new t before) (sym (s.leads.1 ∙ ap (λ x. x.left) was)) (siblings_apart old new id e.left before s.only parts.1 left) in
    let there : Hangs new owner root link target front back =
    to_right outer id s.now before rest (hangs_apart old new id owner root outer id rest back s.only parts.0 apart.1 walk) fits s.now_found left' link_is (sym s.leads.0) front_is in
    rw link_is (subst (λ l. Hangs new owner root l target front back) link_is there)
