-- Lists whose elements are alike, one by one.
use Rattle.std.specs.Prelude.{List, [], ◌∷◌}

abbrev pub AreAlike : {A : Type 0} → (A → A → Type 0) → List A → List A → Type 0
AreAlike R [] [] = Unit {0}
AreAlike R [] (y ∷ ys) = ⊥
AreAlike R (x ∷ xs) [] = ⊥
AreAlike R (x ∷ xs) (y ∷ ys) = R x y × AreAlike R xs ys
