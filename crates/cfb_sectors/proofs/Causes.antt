-- Calls one after the other on the sectors of a medium.
use Rattle.std.proofs.Common.{◌≡◌, sym, ◌∙◌, subst}
use Rattle.std.specs.Prelude.{◌||◌, Result, Ok, Err, IfErr, IsErrAnd, IsErrOf}
use Rattle.cfb_medium.specs.Calls.{IsJustifiedError}
use Rattle.cfb_medium.specs.declared.error.Error.{Error}
use Rattle.cfb_medium.specs.declared.error.Error.TheVariants.{Memory}
use Rattle.cfb_medium.specs.declared.medium.ReadMedium.{Ghosts}
use Rattle.cfb_sectors.specs.declared.sectors.Sectors.{Sectors}
use Rattle.cfb_sectors.specs.Held.{IsJustifiedByMedium, OnlyReadsSectors}

module _ {F : Type 0} {g : Ghosts F} where
  -- an error has its cause also since a state from which only reads led on
  pub cause_after : (a b c : Sectors F g) (e : Error) → OnlyReadsSectors a b → IsJustifiedByMedium b c e → IsJustifiedByMedium a c e
  cause_after a b c e h cause = λ start from. subst (λ f. IsJustifiedError g.failures (λ m. f || g.failed m) start c.inner e) h.failed (cause start (h.continues start from))

  -- want of memory, and refusals by rule, need none
  pub memory_cause : (a b : Sectors F g) → IsJustifiedByMedium a b Memory
  memory_cause a b = λ start from. record { device = λ wrong. absurd (cc); earlier = λ wrong. absurd (cc) }

-- what holds of the error that a call gave holds where it is passed on
pub passed_on : {T : Type 0} (r : Result T Error) (e : Error) (Q : Error → Type 0) → IsErrAnd r (λ x. x ≡ e) → Q e → IfErr r Q
passed_on (Ok x) e Q h q = tt
passed_on (Err x) e Q h q = subst Q (sym h) q

pub err_same : {T : Type 0} (r : Result T Error) (e x : Error) → IsErrAnd r (λ y. y ≡ e) → IsErrOf r x → e ≡ x
err_same {T} (Ok a) e x h k = absurd h
err_same {T} (Err a) e x h k = let inner : a ≡ x = cc in sym h ∙ inner
