-- Steps of a copy, one after the other.
use Rattle.std.proofs.Common.{◌≡◌, false, inl, inr, Err, Ok, ⊎_elim}
use Rattle.cfb_medium.specs.declared.error.Error.{Error}
use Rattle.cfb_medium.specs.declared.medium.ReadMedium.{Ghosts}
use Rattle.cfb_fat.specs.Keeping.{rests_cause}
use Rattle.cfb_fat.specs.OnlyReads.{all_rest_then}
use Rattle.cfb_fat.specs.Tables.{has_failed_here, OnlyReadsAllocator}
use Rattle.cfb_fat.specs.declared.allocator.Allocator.{Allocator}
use Rattle.cfb_chain_io.specs.ChainEffects.{KeepsFileInvariants}
use Rattle.cfb_chain_io.proofs.GoingOn.{goes_cause, goes_then}
use Rattle.cfb_copying.specs.Chains.{IsJustifiedByEither}
use Rattle.cfb_copying.specs.Steps.{CopiesOneStep}

module _ {F : Type 0} {g : Ghosts F} {T : Type 0} {h : Ghosts T} where
  -- an error that has its cause since a later state
  pub cause_then : (a b c : Allocator F g) (x y z : Allocator T h) (e : Error) → OnlyReadsAllocator a b → KeepsFileInvariants x y → has_failed_here y ≡ false → IsJustifiedByEither b c y z e → IsJustifiedByEither a c x z e
  cause_then a b c x y z e rests goes live cause = ⊎_elim (λ read. inl (rests_cause a b c e rests read)) (λ written. inr (goes_cause x y z e goes live written)) cause

  -- a step that ends in an error, after others
  pub steps_fail : {R Q : Type 0} (e : Error) (a b c : Allocator F g) (x y z : Allocator T h) → OnlyReadsAllocator a b → KeepsFileInvariants x y → has_failed_here y ≡ false → CopiesOneStep {R = Q} (Err e) b c y z → CopiesOneStep {R = R} (Err e) a c x z
  steps_fail e a b c x y z rests goes live step = record {
    rests = all_rest_then a b c rests step.rests;
    goes_on = goes_then x y z goes step.goes_on;
    live = tt;
    cause = cause_then a b c x y z e rests goes live step.cause;
    fault = step.fault;
  }

  -- steps that are done
  pub steps_done : {R : Type 0} (done : R) (a b : Allocator F g) (x y : Allocator T h) → OnlyReadsAllocator a b → KeepsFileInvariants x y → has_failed_here y ≡ false → CopiesOneStep {R = R} (Ok done) a b x y
  steps_done done a b x y rests goes live = record { rests = rests; goes_on = goes; live = live; cause = tt; fault = tt }
