-- Where a seek goes.
use Rattle.std.specs.Prelude.{◌≡◌, ℕ, ◌≤◌, ◌⊎◌, ℤ, pos, ◌+ℤ◌, Bool, false, true}
use Rattle.cfb_medium.specs.declared.error.Error.{Error}
use Rattle.cfb_medium.specs.declared.error.Error.TheVariants.{Failed, InvalidInput}
use Rattle.std.specs.declared.io.SeekFrom.{SeekFrom}
use Rattle.std.specs.declared.io.SeekFrom.TheVariants.{Start, End, Current}

-- the place that a seek asks for, in a part of so many bytes, at this position
abbrev pub asked : SeekFrom → ℕ → ℕ → ℤ
asked (Start place) len position = pos place
asked (End by) len position = pos len +ℤ by
asked (Current by) len position = pos position +ℤ by

-- it asks for this place, which is in the part or at its end
pub record Finds (from : SeekFrom) (len position found : ℕ) : Type 0 where
  pub place : pos found ≡ asked from len position
  pub inside : found ≤ len

-- why a seek isn't done: a fault before has left a state of failure, or there is no such place
abbrev pub IsNotFound : Bool → SeekFrom → ℕ → ℕ → Error → Type 0
IsNotFound failed from len position error =
    ((error ≡ Failed) × (failed ≡ true)) ⊎ ((error ≡ InvalidInput) × (failed ≡ false) × ((n : ℕ) → Finds from len position n → ⊥))
