-- What a write to a file of a system leaves.
use Rattle.std.specs.Prelude.{ℕ, List}
use Rattle.staged.specs.Device.{Torn}

-- one of these, with a write of n bytes cut short
abbrev pub IsTornFrom : ℕ → ℕ → (List ℕ → Type 0) → List ℕ → Type 0
IsTornFrom at n outcomes left = (before : List ℕ) × outcomes before × Torn at n before left
