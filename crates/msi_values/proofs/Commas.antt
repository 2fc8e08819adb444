-- Texts with commas: the first, and each further one behind a comma.
use Rattle.std.proofs.Common.{◌≡◌, ℕ, List, [], ◌∷◌, ◌++◌, map, ap, sym, append-nil}
use Rattle.std.specs.List.{flat_map}
use Rattle.msi_values.specs.Datum.{with_commas}

pub with_commas-cons : {A : Type 0} (f : A → List ℕ) (x : A) (xs : List A) → with_commas (map f (x ∷ xs)) ≡ f x ++ flat_map (λ y. 44 ∷ f y) xs
with_commas-cons f x [] = sym (append-nil (f x))
with_commas-cons f x (y ∷ ys) = ap (λ rest. f x ++ 44 ∷ rest) (with_commas-cons f y ys)
