-- What is answered of parts that can't be read.
use Rattle.std.proofs.Common.{Bool, false, sym, subst}
use Rattle.std.specs.Prelude.{◌↔◌, Err, IfOk, IsTrue, Ok, Result}
use Rattle.cfb_medium.specs.Calls.{IsFaultOrInvalidInputIf}
use Rattle.cfb_medium.specs.declared.error.Error.{Error}
use Rattle.msi_soundness.proofs.Told.{Answers, is_no}
use Rattle.msi_soundness.specs.Faults.{IsNoUnlessFault}

-- a part that can't be read
module _ (error : Error) where
  pub unread_ok : (Q : Bool → Type 0) (r : Result Bool Error) → IsNoUnlessFault error r → ((IsFaultOrInvalidInputIf ⊥ error → ⊥) → Q false) → IfOk r Q
  unread_ok Q (Ok is) told here = subst Q (sym told.0) (here told.1)
  unread_ok Q (Err e) told here = tt

  pub unread_answers : (P : Type 0) (r : Result Bool Error) → IsNoUnlessFault error r → ((IsFaultOrInvalidInputIf ⊥ error → ⊥) → P → ⊥) → Answers P r
  unread_answers P r told none = unread_ok (λ is. IsTrue is ↔ P) r told (λ other. is_no P (none other))
