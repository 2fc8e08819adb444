-- The width of one column that is raised; no public call cites it.
use Rattle.std.specs.Prelude.{ℕ, zero, suc, List, [], ◌∷◌, max}

abbrev pub raised : List ℕ → ℕ → ℕ → List ℕ
raised [] k width = width ∷ []
raised (w ∷ ws) zero width = max w width ∷ ws
raised (w ∷ ws) (suc k) width = w ∷ raised ws k width
