-- What a fault of a package is to a session.
use Rattle.std.proofs.Common.{◌≡◌, ◌⊎◌, arith, false, inl, inr, refl, true, ⊎_elim}
use Rattle.std.proofs.lemmas.Bool.{both_ways}
use Rattle.cfb.specs.Publishing.{medium_in}
use Rattle.cfb.specs.Views.{mini_of}
use Rattle.cfb_fat.specs.Tables.{IsJustifiedBySectors}
use Rattle.cfb_tree_edits.specs.LiveTreeRules.{IsFaultOrFull}
use Rattle.cfb_medium.specs.Calls.{IsFaultOrInvalidInputIf}
use Rattle.cfb_medium.specs.declared.error.Error.{Error}
use Rattle.cfb_medium.specs.declared.error.Error.TheVariants.{AlreadyExists, Device, Failed, Full, InvalidData, InvalidInput, Memory, NotFound, UnexpectedEof}
use Rattle.cfb_medium.specs.declared.medium.ReadMedium.{Ghosts}
use Rattle.cfb_mini.specs.Views.{allocator_of}
use Rattle.msi.specs.Changing.{failed_in}
use Rattle.msi.specs.Opened.{file_in}
use Rattle.msi.specs.declared.package.Package.{Package}
use Rattle.command_file.specs.Request.{Request}
use Rattle.installer.specs.SessionStates.{SessionState, takes_room}
use Rattle.installer.specs.SessionStates.{IsSessionFault as IsCourseFault}

-- want of memory, a fault of the device, or one before
pub fault_kinds : (e : Error) → IsFaultOrInvalidInputIf ⊥ e → (e ≡ Memory) ⊎ ((e ≡ Device) ⊎ (e ≡ Failed))
fault_kinds InvalidInput is = absurd is
fault_kinds Memory is = inl refl
fault_kinds Device is = inr (inl refl)
fault_kinds Failed is = inr (inr refl)
fault_kinds InvalidData is = absurd is
fault_kinds NotFound is = absurd is
fault_kinds AlreadyExists is = absurd is
fault_kinds UnexpectedEof is = absurd is
fault_kinds Full is = absurd is

module _ {F : Type 0} {g : Ghosts F} (refl_continues : (m : F) → g.continues m m) where
  -- a fault of a package that has not failed is one of the course, whatever was asked for
  pub own_fault_of : (old new : Package F g) (start end : SessionState) (request : Request) (e : Error) → failed_in old ≡ false → start.failures ≡ g.failures (medium_in (file_in old))
      → end.failures ≡ g.failures (medium_in (file_in new)) → IsJustifiedBySectors (allocator_of (mini_of (file_in old))) (allocator_of (mini_of (file_in new))) e → IsFaultOrInvalidInputIf ⊥ e
      → IsCourseFault start request e end
  own_fault_of old new start end request e live first last cause kinds =
      let own = cause (medium_in (file_in old)) (refl_continues (medium_in (file_in old))) in
      ⊎_elim (λ memory. inl memory) (λ more. ⊎_elim
      (λ device. inr (inr (device, λ less. let up = own.device device (omega (arith, first, less)) in omega (arith, first, last, up))))
      (λ failed. absurd (both_ways (failed_in old) live (own.earlier failed))) more) (fault_kinds e kinds)

  -- and want of numbers is, where the request may need some
  pub fault_of : (old new : Package F g) (start end : SessionState) (request : Request) (e : Error) → (e ≡ Full → takes_room request ≡ true) → failed_in old ≡ false
      → start.failures ≡ g.failures (medium_in (file_in old)) → end.failures ≡ g.failures (medium_in (file_in new))
      → IsJustifiedBySectors (allocator_of (mini_of (file_in old))) (allocator_of (mini_of (file_in new))) e → IsFaultOrFull e → IsCourseFault start request e end
  fault_of old new start end request e room live first last cause fault =
      ⊎_elim (λ kinds. own_fault_of old new start end request e live first last cause kinds) (λ full. inr (inl (full, room full))) fault
