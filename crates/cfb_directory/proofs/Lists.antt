-- Rising lists, in parts.
use Rattle.std.proofs.Common.{◌≡◌, List, [], ◌∷◌, ◌++◌}
use Rattle.std.specs.List.{AllByRecursion}
use Rattle.std.specs.List.Sorted.{IsStrictlySortedBy}
use Rattle.std.specs.declared.cmp.Ordering.{Ordering}
use Rattle.std.specs.declared.cmp.Ordering.TheVariants.{Less}
use Rattle.cfb_tree.proofs.NamesRead.{all_append}
use Rattle.cfb_siblings.proofs.Lists.{all_map, all_parts}

module _ {A : Type 0} (cmp : A → A → Ordering) where
  -- in a rising list those before an element are below it, and those after it above
  pub sorted_around : (xs : List A) (x : A) (ys : List A) → IsStrictlySortedBy cmp (xs ++ x ∷ ys)
      → AllByRecursion (λ y. cmp y x ≡ Less) xs × AllByRecursion (λ y. cmp x y ≡ Less) ys
  unfolding IsStrictlySortedBy
  sorted_around [] x ys h = (tt, h.0)
  sorted_around (y ∷ xs) x ys h =
      let rest = sorted_around xs x ys h.1 in
      (((all_parts (λ z. cmp y z ≡ Less) xs (x ∷ ys) h.0).1.0, rest.0), rest.1)

  pub sorted_parts : (xs ys : List A) → IsStrictlySortedBy cmp (xs ++ ys) → IsStrictlySortedBy cmp xs × IsStrictlySortedBy cmp ys
  unfolding IsStrictlySortedBy
  sorted_parts [] ys h = (tt, h)
  sorted_parts (x ∷ xs) ys h =
      let rest = sorted_parts xs ys h.1 in (((all_parts (λ z. cmp x z ≡ Less) xs ys h.0).0, rest.0), rest.1)

  -- two rising lists with an element between them
  pub sorted_between : ((x y z : A) → cmp x y ≡ Less → cmp y z ≡ Less → cmp x z ≡ Less) → (xs : List A) (x : A) (ys : List A)
      → IsStrictlySortedBy cmp xs → IsStrictlySortedBy cmp ys
      → AllByRecursion (λ y. cmp y x ≡ Less) xs → AllByRecursion (λ y. cmp x y ≡ Less) ys → IsStrictlySortedBy cmp (xs ++ x ∷ ys)
  unfolding IsStrictlySortedBy
  sorted_between trans [] x ys h k below above = (above, k)
  sorted_between trans (y ∷ xs) x ys h k below above = (
    all_append (λ z. cmp y z ≡ Less) xs (x ∷ ys) h.0
        (below.0, all_map (λ z. cmp x z ≡ Less) (λ z. cmp y z ≡ Less) ys (λ z under. trans y x z below.0 under) above),
    sorted_between trans xs x ys h.1 k below.1 above,
  )
