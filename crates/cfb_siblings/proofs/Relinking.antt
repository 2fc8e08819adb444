-- The siblings of a tree after the link to a part of it was made to lead elsewhere.
use Rattle.std.proofs.Common.{◌≡◌, ℕ, false, List, [], ◌∷◌, ◌++◌, refl, sym, ◌∙◌, ap, subst, append_assoc, append-nil}
use Rattle.std.specs.Prelude.{Some, nat_eq}
use Rattle.std.specs.List.{IsDistinct}
use Rattle.cfb_tree.specs.Directory.{Entry, Siblings, some}
use Rattle.cfb_siblings.specs.Changes.{IsApart}
use Rattle.cfb_siblings.proofs.Parts.{ChangesOnly, Relinks, root_after}
use Rattle.cfb_siblings.specs.declared.links.Link.{Link}
use Rattle.cfb_siblings.specs.declared.links.Link.TheVariants.{Left, Right}
use Rattle.cfb_siblings.specs.Places.{Hangs, first, to_left, to_right}
use Rattle.cfb_siblings.proofs.Lists.{all_parts, apart_in}
use Rattle.cfb_siblings.proofs.Frames.{siblings_apart}

regroup : (rest before : List ℕ) (id : ℕ) (here back front : List ℕ) → front ≡ rest ++ (before ++ id ∷ [])
    → rest ++ ((before ++ id ∷ here) ++ back) ≡ front ++ (here ++ back)
regroup rest before id here back front is = rw is (simp append_assoc refl)

Some_same : {A : Type 0} {x y : A} → Some x ≡ Some y → x ≡ y
Some_same e = cc

-- what hangs at the end of the walk stands between those before and after it
pub hung : (directory : List Entry) (owner root : ℕ) (link : Link) (at : ℕ) (front back here : List ℕ) → Hangs directory owner root link at front back
    → Siblings directory at here → Siblings directory root (front ++ (here ++ back))
hung directory owner root link at front back here (first link_is at_is front_is back_is) h =
    rw (front_is, back_is, append-nil, ← at_is) h
hung directory owner root link at front back here (to_left outer id e after rest walk fits found right link_is at_is back_is) h =
    let left : Siblings directory e.left here = rw (← at_is) h in
    let whole = hung directory owner root outer id front rest (here ++ id ∷ after) walk (some e here after fits found left right refl) in
    rw (back_is) (subst (λ ids. Siblings directory root (front ++ ids)) (append_assoc here (id ∷ after) rest) whole)
hung directory owner root link at front back here (to_right outer id e before rest walk fits found left link_is at_is front_is) h =
    let right : Siblings directory e.right here = rw (← at_is) h in
    let whole = hung directory owner root outer id rest back (before ++ id ∷ here) walk (some e before here fits found left right refl) in
    subst (Siblings directory root) (regroup rest before id here back front front_is) whole

-- a walk apart from the entry that changes stays
pub hangs_apart : (old new : List Entry) (p owner root : ℕ) (link : Link) (at : ℕ) (front back : List ℕ) → ChangesOnly p old new
    → IsApart p front → IsApart p back → Hangs old owner root link at front back → Hangs new owner root link at front back
hangs_apart old new p owner root link at front back only a b (first link_is at_is front_is back_is) = first link_is at_is front_is back_is
hangs_apart old new p owner root link at front back only a b (to_left outer id e after rest walk fits found right link_is at_is back_is) =
    let here = subst (IsApart p) back_is b in
    let parts = all_parts (λ k. nat_eq p k ≡ false) after rest here.1 in
    to_left outer id e after rest (hangs_apart old new p owner root outer id front rest only a parts.1 walk) fits (only id e here.0 found)
    (siblings_apart old new p e.right after only parts.0 right) link_is at_is back_is
hangs_apart old new p owner root link at front back only a b (to_right outer id e before rest walk fits found left link_is at_is front_is) =
    let here = all_parts (λ k. nat_eq p k ≡ false) rest (before ++ id ∷ []) (subst (IsApart p) front_is a) in
    let parts = all_parts (λ k. nat_eq p k ≡ false) before (id ∷ []) here.1 in
    to_right outer id e before rest (hangs_apart old new p owner root outer id rest back only here.0 b walk) fits (only id e parts.1.0 found)
    (siblings_apart old new p e.left before only parts.0 left) link_is at_is front_is

-- what hangs at the end of the link that changed takes the place of what hung there
pub siblings_relinked : (old new : List Entry) (owner root : ℕ) (link : Link) (at target : ℕ) (front back here : List ℕ) → Relinks old new link target
    → Hangs old owner root link at front back → IsDistinct nat_eq (front ++ back)
    → Siblings new target here → Siblings new (root_after link root target) (front ++ (here ++ back))
siblings_relinked old new owner root link at target front back here r (first link_is at_is front_is back_is) once h =
    rw (link_is, front_is, back_is, append-nil) h
siblings_relinked old new owner root link at target front back here r (to_left outer id e after rest walk fits found right link_is at_is back_is) once h =
    let s : Relinks old new (Left id) target = subst (λ l. Relinks old new l target) link_is r in
    let apart = apart_in front id (after ++ rest) (subst (λ ids. IsDistinct nat_eq (front ++ ids)) back_is once) in
    let parts = all_parts (λ k. nat_eq id k ≡ false) after rest apart.1 in
    let was : s.was ≡ e = Some_same (sym s.was_found ∙ found) in
    let left : Siblings new s.now.left here = subst (λ t. Siblings new t here) (sym s.leads.0) h in
    let right' : Siblings new s.now.right after =
    subst (λ t. Siblings new t after) (sym (s.leads.1 ∙ ap (λ x. x.right) was)) (siblings_apart old new id e.right after s.only parts.0 right) in
    let walk' = hangs_apart old new id owner root outer id front rest s.only apart.0 parts.1 walk in
    let whole = hung new owner root outer id front rest (here ++ id ∷ after) walk' (some s.now here after fits s.now_found left right' refl) in
    rw (link_is, back_is) (subst (λ ids. Siblings new root (front ++ ids)) (append_assoc here (id ∷ after) rest) whole)
siblings_relinked old new owner root link at target front back here r (to_right outer id e before rest walk fits found left link_is at_is front_is) once h =
    let s : Relinks old new (Right id) target = subst (λ l. Relinks old new l target) link_is r in
    let whole_once : IsDistinct nat_eq ((rest ++ before) ++ id ∷ back) =
    subst (IsDistinct nat_eq) (sym (regroup rest before id [] back front front_is) ∙ simp append_assoc refl) once in
    let apart = apart_in (rest ++ before) id back whole_once in
    let parts = all_parts (λ k. nat_eq id k ≡ false) rest before apart.0 in
    let was : s.was ≡ e = Some_same (sym s.was_found ∙ found) in
    let right : Siblings new s.now.right here = subst (λ t. Siblings new t here) (sym s.leads.0) h in
    let left' : Siblings new s.now.left before =
    subst (λ t. Siblings new t before) (sym (s.leads.1 ∙ ap (λ x. x.left) was)) (siblings_apart old new id e.left before s.only parts.1 left) in
    let walk' = hangs_apart old new id owner root outer id rest back s.only parts.0 apart.1 walk in
    let whole = hung new owner root outer id rest back (before ++ id ∷ here) walk' (some s.now before here fits s.now_found left' right refl) in
    rw link_is (subst (Siblings new root) (regroup rest before id here back front front_is) whole)
