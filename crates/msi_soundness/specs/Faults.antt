-- Errors of parts that can't be read.
use Rattle.std.specs.Prelude.{◌≡◌, Bool, false, Result, MatchResult}
use Rattle.cfb_medium.specs.Calls.{IsFaultOrInvalidInputIf}
use Rattle.cfb_medium.specs.declared.error.Error.{Error}

-- a fault is passed, and any other error is a no
abbrev pub IsNoUnlessFault : Error → Result Bool Error → Type 0
IsNoUnlessFault error r = MatchResult r (λ is. (is ≡ false) × (IsFaultOrInvalidInputIf ⊥ error → ⊥)) (λ e. (e ≡ error) × IsFaultOrInvalidInputIf ⊥ e)
