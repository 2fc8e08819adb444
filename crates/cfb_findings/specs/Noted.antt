-- What a step along a list adds.
use Rattle.std.specs.Prelude.{◌≡◌, ◌⊎◌, ℕ, List, [], ◌∷◌, ◌++◌}

-- a number is added to what was found, or what it is added for holds
abbrev pub IsNoted : Type 0 → ℕ → List ℕ → List ℕ → Type 0
IsNoted Whole id old new = (Whole × (new ≡ old)) ⊎ ((Whole → ⊥) × (new ≡ old ++ (id ∷ [])))
