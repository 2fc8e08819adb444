-- A value put among those that rise by number, by its place.
use Rattle.std.proofs.Common.{◌≡◌, ℕ, zero, suc, ◌<◌, ◌≤◌, List, [], ◌∷◌, ◌++◌, length, take, drop, map, slice_get, Option, Some, None, refl, ap, ◌∙◌, arith}
use Rattle.std.proofs.Math.ListN.{set}
use Rattle.std.specs.List.{insert}
use Rattle.std.specs.Prelude.{◌==◌, Bool, true, false, not, filter}
use Rattle.std.proofs.lemmas.Bool.Decides.{nat_tests}
use Rattle.msi_props.specs.Held.{pair_in, property_in}
use Rattle.msi_props.specs.Props.{Property, property_put, property_removed}
use Rattle.msi_props.specs.declared.value.PropertyValue.{PropertyValue}

abbrev Values : Type 0
Values = List (ℕ × PropertyValue)

-- behind a value of a smaller number
passed : (n : ℕ) (v : Property) (p : ℕ × Property) (ps : List (ℕ × Property)) → p.0 < n → property_put n v (p ∷ ps) ≡ p ∷ property_put n v ps
passed n v p ps less = grind (arith, nat_tests)

-- over a value of its number
replaced : (n : ℕ) (v : Property) (p : ℕ × Property) (ps : List (ℕ × Property)) → p.0 ≡ n → property_put n v (p ∷ ps) ≡ (n, v) ∷ ps
replaced n v p ps same = grind (arith, nat_tests)

-- before a value of a greater number
before : (n : ℕ) (v : Property) (p : ℕ × Property) (ps : List (ℕ × Property)) → n < p.0 → property_put n v (p ∷ ps) ≡ (n, v) ∷ p ∷ ps
before n v p ps less = grind (arith, nat_tests)

abbrev number_or : Option (ℕ × PropertyValue) → ℕ
number_or (Some e) = e.0
number_or None = 0

-- what is put behind the first values
abbrev pub put_from : ℕ → ℕ → Property → Values → List (ℕ × Property)
put_from place n v xs = take place (map pair_in xs) ++ property_put n v (drop place (map pair_in xs))

pub put_on : (n : ℕ) (v : Property) (xs : Values) (place : ℕ) (e : ℕ × PropertyValue) → slice_get xs place ≡ Some e → e.0 < n → put_from place n v xs ≡ put_from (suc place) n v xs
put_on n v [] place e at less = cc
put_on n v (x ∷ xs) zero e at less = let number : x.0 ≡ e.0 = ap number_or at in passed n v (pair_in x) (map pair_in xs) (omega arith)
put_on n v (x ∷ xs) (suc place) e at less = ap (λ ps. pair_in x ∷ ps) (put_on n v xs place e at less)

pub put_over : (n : ℕ) (v : PropertyValue) (xs : Values) (place : ℕ) (e : ℕ × PropertyValue) → slice_get xs place ≡ Some e → e.0 ≡ n → put_from place n (property_in v) xs ≡ map pair_in (set xs place (n, v))
put_over n v [] place e at same = cc
put_over n v (x ∷ xs) zero e at same = let number : x.0 ≡ e.0 = ap number_or at in replaced n (property_in v) (pair_in x) (map pair_in xs) (number ∙ same)
put_over n v (x ∷ xs) (suc place) e at same = ap (λ ps. pair_in x ∷ ps) (put_over n v xs place e at same)

pub put_before : (n : ℕ) (v : PropertyValue) (xs : Values) (place : ℕ) → place ≤ length xs → ((e : ℕ × PropertyValue) → slice_get xs place ≡ Some e → n < e.0) → put_from place n (property_in v) xs ≡ map pair_in (insert xs place (n, v))
put_before n v [] zero fits greater = refl
put_before n v [] (suc place) fits greater = absurd (omega arith)
put_before n v (x ∷ xs) zero fits greater = before n (property_in v) (pair_in x) (map pair_in xs) (greater x refl)
put_before n v (x ∷ xs) (suc place) fits greater = ap (λ ps. pair_in x ∷ ps) (put_before n v xs place (omega arith) greater)

-- the values that are left are those of other numbers
one_removed : (n : ℕ) (x : ℕ × PropertyValue) (xs : Values) (b : Bool) → (x.0 == n) ≡ b → map pair_in (filter (λ e. not (e.0 == n)) xs) ≡ property_removed n (map pair_in xs)
    → map pair_in (filter (λ e. not (e.0 == n)) (x ∷ xs)) ≡ property_removed n (map pair_in (x ∷ xs))
one_removed n x xs true same rest = rw same rest
one_removed n x xs false other rest = rw other (ap (λ ps. pair_in x ∷ ps) rest)

pub removed : (n : ℕ) (xs : Values) → map pair_in (filter (λ e. not (e.0 == n)) xs) ≡ property_removed n (map pair_in xs)
removed n [] = refl
removed n (x ∷ xs) = one_removed n x xs (x.0 == n) refl (removed n xs)
