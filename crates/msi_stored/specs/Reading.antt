-- What reading a package's file answers.
use Rattle.std.specs.Prelude.{◌≡◌, ◌⊎◌, Result, Ok, Err, MatchResult}
use Rattle.cfb_medium.specs.Calls.{IsFaultOrInvalidInputIf}
use Rattle.cfb_medium.specs.declared.error.Error.{Error}
use Rattle.cfb_medium.specs.declared.error.Error.TheVariants.{InvalidData, InvalidInput, NotFound, UnexpectedEof}

-- the answer of a definition, its value seen so, or its refusal; or a fault
abbrev pub ReturnsOrFault : {A B : Type 0} → (A → B) → Result B Error → Result A Error → Type 0
ReturnsOrFault see expected result = MatchResult result (λ a. expected ≡ Ok (see a)) (λ e. IsFaultOrInvalidInputIf ⊥ e ⊎ (expected ≡ Err e))

-- which errors opening has over any medium: faults, and refusals of what was read
abbrev pub IsOpeningError : Error → Type 0
IsOpeningError e = IsFaultOrInvalidInputIf ⊥ e ⊎ (e ≡ InvalidData) ⊎ (e ≡ InvalidInput) ⊎ (e ≡ NotFound) ⊎ (e ≡ UnexpectedEof)
