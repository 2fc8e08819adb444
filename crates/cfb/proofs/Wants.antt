-- Errors of calls that only look at memory: want of memory, an earlier fault, or a refusal by rule.
use Rattle.std.proofs.Common.{◌≡◌, ◌⊎◌, inl, inr, true, subst, sym, ⊎_elim}
use Rattle.std.specs.Prelude.{Err, IfErr, Ok, Result}
use Rattle.cfb_entries.specs.Rules.{IsEntryError}
use Rattle.cfb_fat.specs.Keeping.{own_cause}
use Rattle.cfb_fat.specs.Tables.{has_failed_here, IsJustifiedBySectors}
use Rattle.cfb_fat.specs.declared.allocator.Allocator.{Allocator}
use Rattle.cfb_medium.specs.Calls.{IsFaultOrInvalidInputIf}
use Rattle.cfb_medium.specs.declared.error.Error.{Error}
use Rattle.cfb_medium.specs.declared.error.Error.TheVariants.{Device, Failed}
use Rattle.cfb_medium.specs.declared.medium.ReadMedium.{Ghosts}
use Rattle.cfb_mini.specs.Views.{allocator_of}
use Rattle.cfb.specs.Putting.{IsOpenStreamError}
use Rattle.cfb.specs.Streams.{IsFileMemoryOrFailed}
use Rattle.cfb.specs.Views.{mini_of}
use Rattle.cfb.specs.declared.compound_file.CompoundFile.{CompoundFile}

module _ {F : Type 0} {g : Ghosts F} (it : CompoundFile F g) (e : Error) where
  pub want_is : IsFileMemoryOrFailed it e → IsFaultOrInvalidInputIf ⊥ e
  want_is want = elim want [ inl memory ↦ subst (IsFaultOrInvalidInputIf ⊥) (sym memory) tt | inr failed ↦ subst (IsFaultOrInvalidInputIf ⊥) (sym failed.0) tt ]

  no_device : e ≡ Device → IsFileMemoryOrFailed it e ⊎ IsOpenStreamError e → ⊥
  no_device device why = elim why [
    | inl want ↦ elim want [ inl memory ↦ absurd (cc) | inr failed ↦ let is = failed.0 in absurd (cc) ]
    | inr rule ↦ elim rule [ inl broken ↦ absurd (cc) | inr rest ↦ elim rest [ inl input ↦ absurd (cc) | inr missing ↦ absurd (cc) ] ]
  ]

  was_failed : e ≡ Failed → IsFileMemoryOrFailed it e ⊎ IsOpenStreamError e → has_failed_here (allocator_of (mini_of it)) ≡ true
  was_failed is why = elim why [
    | inl want ↦ elim want [ inl memory ↦ absurd (cc) | inr failed ↦ failed.1 ]
    | inr rule ↦ elim rule [ inl broken ↦ absurd (cc) | inr rest ↦ elim rest [ inl input ↦ absurd (cc) | inr missing ↦ absurd (cc) ] ]
  ]

  -- LAW: they have their cause, whatever the medium was asked for since
  pub want_cause : (after : Allocator F g) → IsFileMemoryOrFailed it e ⊎ IsOpenStreamError e → IsJustifiedBySectors (allocator_of (mini_of it)) after e
  want_cause after why = own_cause (allocator_of (mini_of it)) after e (λ device. no_device device why) (λ is. was_failed is why)

  pub want_fault : IsFileMemoryOrFailed it e ⊎ IsOpenStreamError e → IsFaultOrInvalidInputIf ⊥ e ⊎ IsOpenStreamError e
  want_fault = ⊎_elim (λ want. inl (want_is want)) (λ rule. inr rule)

  pub entry_cause : IsEntryError e → IsFileMemoryOrFailed it e ⊎ IsOpenStreamError e
  entry_cause = ⊎_elim (λ memory. inl (inl memory)) (λ rule. inr rule)

module _ {F : Type 0} {g : Ghosts F} (it : CompoundFile F g) {T : Type 0} where
  pub listed_cause : (r : Result T Error) → IfErr r IsEntryError → IfErr r (λ e. IsFileMemoryOrFailed it e ⊎ IsOpenStreamError e)
  listed_cause (Ok x) told = tt
  listed_cause (Err e) told = entry_cause it e told
