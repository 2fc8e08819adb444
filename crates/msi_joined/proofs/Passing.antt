-- Of rows with distinct keys a test of the key passes one at most, so what passes doesn't hang on their order.
use Rattle.std.proofs.Common.{◌≡◌, ◌∙◌, Bool, true, false, not, cond, List, [], ◌∷◌, length, map, refl, sym, ap, arith}
use Rattle.std.specs.Prelude.{filter}
use Rattle.std.specs.List.{All}
use Rattle.std.specs.List.Sorted.{IsPermutation}
use Rattle.std.specs.Ordering.{is_eq}
use Rattle.std.proofs.lemmas.Bool.{and_parts}
use Rattle.std.proofs.lemmas.List.Elements.{All-cons, All-nil, All-tail}
use Rattle.std.proofs.lemmas.List.Sorted.{All-permutation, sum_by-IsPermutation}
use Rattle.std.proofs.lemmas.List.Sums.{length-filter}
use Rattle.msi_values.specs.Datum.{Datum}
use Rattle.msi_tables.specs.Table.{are_distinct, has_key, key_cmp}
use Rattle.msi_changes.proofs.DistinctKeys.{neither}

-- so many times one element
abbrev times : {X : Type 0} → X → List X → List X
times u [] = []
times u (x ∷ xs) = u ∷ times u xs

same_times : {X : Type 0} (u : X) (xs ys : List X) → length xs ≡ length ys → times u xs ≡ times u ys
same_times u [] [] h = refl
same_times u [] (y ∷ ys) h = absurd (omega (arith, h))
same_times u (x ∷ xs) [] h = absurd (omega (arith, h))
same_times u (x ∷ xs) (y ∷ ys) h = ap (λ l. u ∷ l) (same_times u xs ys (omega (arith, h)))

module _ {X : Type 0} (p : X → Bool) where
  abbrev Is : X → X → Type 0
  Is u x = p x ≡ true → x ≡ u

  all_one : (u : X) (xs : List X) → All (Is u) xs → filter p xs ≡ times u (filter p xs)
  all_one u [] all = refl
  all_one u (x ∷ xs) all = on (p x) refl (all_one u xs (All-tail (Is u) x xs all))
    where
      on : (b : Bool) → p x ≡ b → filter p xs ≡ times u (filter p xs) → cond b (x ∷ filter p xs) (filter p xs) ≡ times u (cond b (x ∷ filter p xs) (filter p xs))
      on true is deeper = (let one : x ≡ u = all 0 x (omega arith) is in ap (λ l. x ∷ l) deeper ∙ ap (λ y. y ∷ times u (filter p xs)) one)
      on false is deeper = deeper

  pub moved_pass : (u : X) (xs ys : List X) → IsPermutation xs ys → All (Is u) xs → filter p ys ≡ filter p xs
  moved_pass u xs ys moves all =
      let counts : length (filter p ys) ≡ length (filter p xs) = length-filter p ys ∙ sum_by-IsPermutation (λ x. cond (p x) 1 0) xs ys moves ∙ sym (length-filter p xs) in
      all_one u ys (All-permutation (Is u) xs ys moves all) ∙ same_times u (filter p ys) (filter p xs) counts ∙ sym (all_one u xs all)

module _ {X : Type 0} (p : X → Bool) (key : X → List Datum) (one : (x y : X) → p x ≡ true → p y ≡ true → is_eq (key_cmp (key y) (key x)) ≡ true) where
  none_other : (u : X) → p u ≡ true → (xs : List X) → not (has_key (map key xs) (key u)) ≡ true → All (Is p u) xs
  none_other u is [] h = All-nil (Is p u)
  none_other u is (x ∷ xs) h =
      let parts = neither (is_eq (key_cmp (key x) (key u))) (has_key (map key xs) (key u)) h in
      All-cons (Is p u) x xs (λ passes. (let never : true ≡ false = sym (one u x is passes) ∙ parts.0 in absurd (cc never))) (none_other u is xs parts.1)

  -- all that pass are one, or none does
  passing : (z : X) (xs : List X) → are_distinct (map key xs) ≡ true → (u : X) × All (Is p u) xs
  passing z [] h = (z, All-nil (Is p z))
  passing z (x ∷ xs) h = (let parts = and_parts (not (has_key (map key xs) (key x))) (are_distinct (map key xs)) h in on (p x) refl parts.0 (passing z xs parts.1))
    where
      on : (b : Bool) → p x ≡ b → not (has_key (map key xs) (key x)) ≡ true → (u : X) × All (Is p u) xs → (u : X) × All (Is p u) (x ∷ xs)
      on true is fresh deeper = (x, All-cons (Is p x) x xs (λ passes. refl) (none_other x is xs fresh))
      on false is fresh deeper = (deeper.0, All-cons (Is p deeper.0) x xs (λ passes. (let never : true ≡ false = sym passes ∙ is in absurd (cc never))) deeper.1)

  pub pass_alike : X → (xs ys : List X) → are_distinct (map key xs) ≡ true → IsPermutation xs ys → filter p ys ≡ filter p xs
  pass_alike z xs ys distinct moves = (let it = passing z xs distinct in moved_pass p it.0 xs ys moves it.1)
