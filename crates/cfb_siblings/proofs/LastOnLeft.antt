-- The walk to the last of the siblings that hang at an entry, by the right links.
use Rattle.std.proofs.Common.{◌≡◌, ℕ, ◌+◌, ◌<◌, ◌≤◌, length, length-append, List, [], ◌∷◌, ◌++◌, refl, sym, ◌∙◌, ap, subst, append_assoc, append-nil, arith}
use Rattle.std.specs.Prelude.{slice_get, Some, None, nat_eq}
use Rattle.std.specs.List.{IsDistinct}
use Rattle.cfb_tree.specs.Directory.{Entry, Siblings, none, some, no_entry}
use Rattle.cfb_tree.proofs.OneContent.{Some_same}
use Rattle.cfb_siblings.specs.declared.links.Link.{Link}
use Rattle.cfb_siblings.specs.declared.links.Link.TheVariants.{Child, Right}
use Rattle.cfb_siblings.specs.Places.{Hangs, first, to_right}
use Rattle.cfb_siblings.proofs.Records.{GoesRight}
use Rattle.cfb_siblings.proofs.Bounds.{siblings_fit, some_here}

module _ (directory : List Entry) (owner root : ℕ) (ids : List ℕ) where
  pub right_begun : Siblings directory root ids → GoesRight directory owner root ids (Child owner) root 0
  right_begun h = record {
    front = [];
    here = ids;
    ids_are = refl;
    hangs = first refl refl refl refl;
    siblings = h;
    bound = omega arith;
  }

  right_step : (link : Link) (at steps : ℕ) (e : Entry) (it : GoesRight directory owner root ids link at steps) → (at ≡ no_entry → ⊥)
      → slice_get directory at ≡ Some e → Siblings directory at it.here → GoesRight directory owner root ids (Right at) e.right (steps + 1)
  right_step link at steps e it some_entry found (none is empty) = absurd (some_entry is)
  right_step link at steps e it some_entry found (some f before after fits found' left right whole) =
      let same : f ≡ e = Some_same (sym found' ∙ found) in
      record {
        front = it.front ++ (before ++ at ∷ []);
        here = after;
        ids_are = it.ids_are ∙ ap (λ xs. it.front ++ xs) whole ∙ simp append_assoc refl;
        hangs = to_right link at e before it.front it.hangs fits found (subst (λ y. Siblings directory y.left before) same left) refl refl refl;
        siblings = subst (λ y. Siblings directory y.right after) same right;
        bound = omega (arith, it.bound, ap length whole, length-append before (at ∷ after));
      }

  pub right_on : (link : Link) (at steps : ℕ) (e : Entry) → GoesRight directory owner root ids link at steps → (at ≡ no_entry → ⊥)
      → slice_get directory at ≡ Some e → GoesRight directory owner root ids (Right at) e.right (steps + 1)
  right_on link at steps e it some_entry found = right_step link at steps e it some_entry found it.siblings

  no_here : (id : ℕ) (xs : List ℕ) → id ≡ no_entry → Siblings directory id xs → xs ≡ []
  no_here id xs is (none is' empty) = empty
  no_here id xs is (some e before after fits found left right whole) = absurd (omega (arith, is, fits))

  pub right_ended : (link : Link) (at steps : ℕ) → GoesRight directory owner root ids link at steps → at ≡ no_entry → Hangs directory owner root link no_entry ids []
  right_ended link at steps it is =
      let whole : ids ≡ it.front = it.ids_are ∙ ap (λ xs. it.front ++ xs) (no_here at it.here is it.siblings) ∙ append-nil it.front in
      subst (λ k. Hangs directory owner root link k ids []) is (subst (λ xs. Hangs directory owner root link at xs []) (sym whole) it.hangs)

-- the walk came by so many steps to an entry
pub record WentRight (directory : List Entry) (root : ℕ) (ids : List ℕ) (at steps : ℕ) : Type 0 where
  pub link : Link
  pub walk : GoesRight directory 0 root ids link at steps
  pub some_entry : at ≡ no_entry → ⊥

module _ (directory : List Entry) (root : ℕ) (ids : List ℕ) where
  pub went_first : Siblings directory root ids → (root ≡ no_entry → ⊥) → WentRight directory root ids root 0
  went_first h some_entry = record { link = Child 0; walk = right_begun directory 0 root ids h; some_entry = some_entry }

  module _ (at steps : ℕ) (it : WentRight directory root ids at steps) where
    pub went_there : slice_get directory at ≡ None → ⊥
    went_there lost = by_siblings it.walk.siblings
      where
        by_siblings : {here : List ℕ} → Siblings directory at here → ⊥
        by_siblings (none is empty) = it.some_entry is
        by_siblings (some e front back fits found left right whole) = let never : Some e ≡ None = sym found ∙ lost in absurd (cc)

    pub went_on : (e : Entry) → slice_get directory at ≡ Some e → (e.right ≡ no_entry → ⊥) → WentRight directory root ids e.right (steps + 1)
    went_on e found more = record { link = Right at; walk = right_on directory 0 root ids it.link at steps e it.walk it.some_entry found; some_entry = more }

    pub came_last : (e : Entry) → slice_get directory at ≡ Some e → e.right ≡ no_entry → Hangs directory 0 root (Right at) no_entry ids []
    came_last e found is = right_ended directory 0 root ids (Right at) e.right (steps + 1)
        (right_on directory 0 root ids it.link at steps e it.walk it.some_entry found) is

    pub never_past : Siblings directory root ids → IsDistinct nat_eq ids → length directory ≤ steps → ⊥
    never_past h once many =
        let here : 0 < length it.walk.here = some_here directory at it.walk.here it.some_entry it.walk.siblings in
        omega (arith, many, it.walk.bound, here, siblings_fit directory root ids h once)
