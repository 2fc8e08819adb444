-- What a crash may leave at each moment of a run of calls.
use Rattle.std.specs.Prelude.{◌⊎◌, ℕ, ◌≤◌}

-- A stop at any moment since the old state leaves what has P.
pub record CrashLeavesOnly {M X : Type 0} (moment : M → ℕ) (crash_left_since : M → ℕ → X → Type 0) (old new : M) (P : X → Type 0) : Type 0 where
  pub later : moment old ≤ moment new
  pub each : (x : X) → crash_left_since new (moment old) x → P x
  -- of a run that began earlier: what it might have left by the old state, or what has P
  pub before : (t : ℕ) (x : X) → t ≤ moment old → crash_left_since new t x → crash_left_since old t x ⊎ P x
