-- What reading an identifier gives.
use Rattle.std.proofs.Common.{◌≡◌, List, ℕ, Option, Some, None, Result, Ok, Err, true, false, refl}
use Rattle.std.specs.Prelude.{IsOk, IfOk, ◌↔◌}
use Rattle.std.specs.Result.{result_ok}

-- a call that answers Ok exactly where there is a value, and then that
pub read_or_none : {E : Type 0} (r : Result (List ℕ) E) (p : Option (List ℕ)) → (IsOk r ↔ ((u : List ℕ) × (p ≡ Some u))) → IfOk r (λ u. Some u ≡ p) → result_ok r ≡ p
read_or_none (Ok u) p there is = is
read_or_none (Err e) None there is = refl
read_or_none (Err e) (Some u) there is = let never : false ≡ true = there.1 (u, refl) in cc
