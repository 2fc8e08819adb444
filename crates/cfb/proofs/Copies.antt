-- Bytes that are written to an empty medium.
use Rattle.std.proofs.Common.{◌≡◌, ℕ, ◌+◌, List, [], ◌∷◌, ◌++◌, length, append-nil, refl, ap, ◌∙◌, Err, Ok}
use Rattle.std.specs.Prelude.{OnOk, Result}
use Rattle.std.proofs.Math.Seq.{drop-nil}
use Rattle.cfb_medium.specs.Bytes.{overwritten}

-- they are all that it holds
pub over_nothing : (bytes : List ℕ) → overwritten [] 0 bytes ≡ bytes
over_nothing [] = refl
over_nothing (x ∷ xs) = ap (λ l. (x ∷ xs) ++ l) (drop-nil (0 + length (x ∷ xs))) ∙ append-nil (x ∷ xs)

-- what follows from what was done where a premise holds
pub if_done : {T E : Type 0} (r : Result T E) (H X Y : Type 0) → (H → X → Y) → (H → OnOk r X) → OnOk r (H → Y)
if_done (Ok v) H X Y so done = λ h. so h (done h)
if_done (Err e) H X Y so done = tt
