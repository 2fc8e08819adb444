-- Streams that nothing names, by their texts and as plain data.
use Rattle.std.proofs.Common.{◌≡◌, ◌∙◌, ℕ, ◌+◌, Bool, not, List, [], ◌∷◌, ◌++◌, map, refl, ap}
use Rattle.std.specs.Prelude.{◌&&◌}
use Rattle.std.specs.List.{enumerate_from, flat_map}
use Rattle.package_rules.specs.Places.{numbered}
use Rattle.product_rules.specs.Unused.{is_property_set, number_if}

abbrev pub loose_at : (List ℕ → Bool) → ℕ → List ℕ → List ℕ
loose_at used k s = number_if (not (used s) && not (is_property_set s)) k

mapped_from : {A B C : Type 0} (g : A → B) (f : ℕ → B → List C) (xs : List A) (i : ℕ)
    → flat_map (λ e. f e.0 (g e.1)) (enumerate_from i xs) ≡ flat_map (λ e. f e.0 e.1) (enumerate_from i (map g xs))
mapped_from g f [] i = refl
mapped_from g f (x ∷ xs) i = ap (λ ys. f i (g x) ++ ys) (mapped_from g f xs (i + 1))

pub numbered_mapped : {A B C : Type 0} (g : A → B) (f : ℕ → B → List C) (xs : List A) → numbered (λ k x. f k (g x)) xs ≡ numbered f (map g xs)
numbered_mapped g f xs = mapped_from g f xs 0
