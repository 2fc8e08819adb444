-- Beginnings of closed logs.
use Rattle.std.proofs.Common.{◌≡◌, ◌≤◌, ℕ, zero, suc, Bool, true, false, ◌&&◌, ◌==◌, List, [], ◌∷◌, length, take, refl, arith}
use Rattle.std.specs.Prelude.{nat_lt, slice_index}
use Rattle.staged.specs.Log.{has_open_gate}

-- what is taken of a list is no longer
shorter : (xs : List ℕ) (count : ℕ) → length (take count xs) ≤ length xs
shorter [] zero = omega arith
shorter [] (suc count) = omega arith
shorter (x ∷ xs) zero = omega arith
shorter (x ∷ xs) (suc count) = let rest = shorter xs count in omega arith

fewer : (one : Bool) (m n : ℕ) → m ≤ n → (one && nat_lt 1 n) ≡ false → (one && nat_lt 1 m) ≡ false
fewer false m n le closed = refl
fewer true m n le closed = grind arith

pub closed_beginning : (log : List ℕ) (count : ℕ) → has_open_gate log ≡ false → has_open_gate (take count log) ≡ false
closed_beginning [] zero closed = refl
closed_beginning [] (suc count) closed = closed
closed_beginning (first ∷ log) zero closed = refl
closed_beginning (first ∷ log) (suc count) closed = fewer (first == 1) (length (take (suc count) (first ∷ log))) (length (first ∷ log)) (shorter (first ∷ log) (suc count)) closed
