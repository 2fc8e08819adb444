-- Whether one of some answers is a refusal.
use Rattle.std.proofs.Common.{◌≡◌, ◌+◌, ◌<◌, ◌||◌, ℕ, zero, suc, Bool, true, false, List, [], ◌∷◌, get_or, length, map, take, refl, sym, subst, arith}
use Rattle.installer.specs.FirstRefusal.{any_refusal}
use Rattle.installer.specs.Reply.{Reply, is_refusal}
use Rattle.installer_runs.proofs.Parting.{first_of_both, second_of_both}

module _ {C : Type 0} (f : C → Reply) where
  -- one more of them, which is none
  pub none_more : (xs : List C) (n : ℕ) (d : C) → n < length xs → is_refusal (f (get_or xs n d)) ≡ false → any_refusal (map f (take n xs)) ≡ false → any_refusal (map f (take (n + 1) xs)) ≡ false
  none_more [] n d within is none = absurd (omega (arith, within))
  none_more (x ∷ xs) zero d within is none = rw is refl
  none_more (x ∷ xs) (suc n) d within is none =
      let own : is_refusal (f x) ≡ false = first_of_both (is_refusal (f x)) (any_refusal (map f (take n xs))) none in
      let rest = none_more xs n d (omega arith) is (second_of_both (is_refusal (f x)) (any_refusal (map f (take n xs))) none) in
      let more : suc n + 1 ≡ suc (n + 1) = omega arith in
      let inner : (is_refusal (f x) || any_refusal (map f (take (n + 1) xs))) ≡ false = rw own rest in
      subst (λ (k : ℕ). any_refusal (map f (take k (x ∷ xs))) ≡ false) (sym more) inner

  or_true : (a b : Bool) → b ≡ true → (a || b) ≡ true
  or_true true b is = refl
  or_true false b is = is

  -- one of them is one
  pub one_is : (xs : List C) (n : ℕ) (d : C) → n < length xs → is_refusal (f (get_or xs n d)) ≡ true → true ≡ any_refusal (map f xs)
  one_is [] n d within is = absurd (omega (arith, within))
  one_is (x ∷ xs) zero d within is = rw is refl
  one_is (x ∷ xs) (suc n) d within is = sym (or_true (is_refusal (f x)) (any_refusal (map f xs)) (sym (one_is xs n d (omega arith) is)))
