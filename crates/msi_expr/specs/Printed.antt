-- How lists and conditions are printed.
use Rattle.std.specs.Prelude.{ℕ, List, [], ◌∷◌, Option, Some, None, codes}
use Rattle.std.specs.Fmt.{◌++?◌}
use Rattle.msi_expr.specs.Formula.{Formula, shown}

-- texts with a text between each two
abbrev pub separated : List ℕ → List (Option (List ℕ)) → Option (List ℕ)
separated between [] = Some []
separated between (t ∷ []) = t
separated between (t ∷ u ∷ ts) = t ++? Some between ++? separated between (u ∷ ts)

-- a condition behind its word; none is not printed
abbrev pub condition_text : Option Formula → Option (List ℕ)
condition_text None = Some []
condition_text (Some f) = Some (codes " WHERE ") ++? shown 0 f
