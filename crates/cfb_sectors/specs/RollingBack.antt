-- A medium that goes back to what was published last.
use Rattle.std.specs.Prelude.{◌≡◌, ℕ, Bool, List, IsTrue}
use Rattle.cfb_medium.specs.Calls.{Reaches}

-- an honest medium that had published bytes has these again, and nothing was published
pub record MediumRollsBack {M : Type 0} (honest : M → Bool) (bytes : M → List ℕ) (continues : M → M → Type 0) (has_published : M → List ℕ → Type 0) (old new : M) : Type 0 where
  pub as_honest : honest new ≡ honest old
  pub rolled : IsTrue (honest old) → (published : List ℕ) → has_published old published → bytes new ≡ published
  pub extends : Reaches continues old new
