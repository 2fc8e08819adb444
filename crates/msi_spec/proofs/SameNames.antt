-- Two lists that rise strictly and have the same members are one.
use Rattle.std.proofs.Common.{◌≡◌, ◌∙◌, zero, suc, List, [], ◌∷◌, refl, sym, ap, subst, arith, inl, inr}
use Rattle.std.specs.Prelude.{◌⊎◌, Contains}
use Rattle.std.specs.List.{AllByRecursion}
use Rattle.std.specs.List.Sorted.{IsStrictlySortedBy}
use Rattle.std.specs.Cmp.{IsTotalOrder}
use Rattle.std.specs.declared.cmp.Ordering.{Ordering}
use Rattle.std.specs.declared.cmp.Ordering.TheVariants.{Less, Greater}
use Rattle.std.specs.Ordering.{ordering_reverse}
use Rattle.std.proofs.lemmas.Map.Keys.{sorted_head, sorted_tail}

module _ {K : Type 0} where
  none_in : (x : K) → Contains [] x → ⊥
  none_in x h = let below = h.1 in omega (arith, below)

  head_in : (x : K) (xs : List K) → Contains (x ∷ xs) x
  head_in x xs = (0, omega arith, refl)

  later_in : (x y : K) (xs : List K) → Contains xs y → Contains (x ∷ xs) y
  later_in x y xs h = (suc h.0, (let below = h.1 in omega (arith, below)), h.2)

  in_cases : (x y : K) (xs : List K) → Contains (x ∷ xs) y → (x ≡ y) ⊎ Contains xs y
  in_cases x y xs (zero, below, is) = inl is
  in_cases x y xs (suc k, below, is) = inr (k, omega (arith, below), is)

  holds_at : (P : K → Type 0) (xs : List K) (y : K) → AllByRecursion P xs → Contains xs y → P y
  holds_at P [] y all h = absurd (none_in y h)
  holds_at P (x ∷ xs) y all h = by (holds_at P xs y all.1) (in_cases x y xs h)
    where
      by : (Contains xs y → P y) → (x ≡ y) ⊎ Contains xs y → P y
      by on (inl e) = subst P e all.0
      by on (inr r) = on r

module _ {K : Type 0} (R : K → K → Ordering) (laws : IsTotalOrder R) where
  not_both : (x y : K) → R x y ≡ Less → R y x ≡ Less → ⊥
  not_both x y a b = let turned = laws.antisymm x y in let h : Less ≡ Greater = sym a ∙ turned ∙ ap ordering_reverse b in cc

  pub same_lists : (xs ys : List K) → IsStrictlySortedBy R xs → IsStrictlySortedBy R ys → ((z : K) → Contains xs z → Contains ys z) → ((z : K) → Contains ys z → Contains xs z) → xs ≡ ys
  same_lists [] [] s t to from = refl
  same_lists [] (y ∷ ys) s t to from = absurd (none_in y (from y (head_in y ys)))
  same_lists (x ∷ xs) [] s t to from = absurd (none_in x (to x (head_in x xs)))
  same_lists (x ∷ xs) (y ∷ ys) s t to from =
      let first = heads (in_cases y x ys (to x (head_in x xs))) (in_cases x y xs (from y (head_in y ys))) in
      ap (λ z. z ∷ xs) first ∙ ap (λ zs. y ∷ zs) (same_lists xs ys (sorted_tail R x xs s) (sorted_tail R y ys t) (tail_to first) (tail_from first))
    where
      above_x : (z : K) → Contains xs z → R x z ≡ Less
      above_x z h = holds_at (λ z. R x z ≡ Less) xs z (sorted_head R x xs s) h

      above_y : (z : K) → Contains ys z → R y z ≡ Less
      above_y z h = holds_at (λ z. R y z ≡ Less) ys z (sorted_head R y ys t) h

      heads : (y ≡ x) ⊎ Contains ys x → (x ≡ y) ⊎ Contains xs y → x ≡ y
      heads (inl e) other = sym e
      heads (inr h) (inl e) = e
      heads (inr h) (inr k) = absurd (not_both x y (above_x y k) (above_y x h))

      tail_to : x ≡ y → (z : K) → Contains xs z → Contains ys z
      tail_to same z h = by (in_cases y z ys (to z (later_in x z xs h)))
        where
          by : (y ≡ z) ⊎ Contains ys z → Contains ys z
          by (inl e) = let level : R x x ≡ Less = subst (λ w. R x w ≡ Less) (sym (same ∙ e)) (above_x z h) in absurd (not_both x x level level)
          by (inr r) = r

      tail_from : x ≡ y → (z : K) → Contains ys z → Contains xs z
      tail_from same z h = by (in_cases x z xs (from z (later_in y z ys h)))
        where
          by : (x ≡ z) ⊎ Contains xs z → Contains xs z
          by (inl e) = let level : R y y ≡ Less = subst (λ w. R y w ≡ Less) (sym (sym same ∙ e)) (above_y z h) in absurd (not_both y y level level)
          by (inr r) = r
