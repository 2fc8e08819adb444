-- Errors of a file in memory have no cause in a device.
use Rattle.std.proofs.Common.{◌≡◌, false, arith, ⊎_elim}
use Rattle.cfb_medium.specs.declared.error.Error.{Error}
use Rattle.cfb_medium.specs.declared.error.Error.TheVariants.{Device, Failed}
use Rattle.cfb_medium.specs.declared.medium.ReadMedium.{Ghosts}
use Rattle.cfb_medium.specs.declared.memory.MemoryMedium.{MemoryMedium}
use Rattle.cfb_medium.specs.contracts.memory.MemoryMediumReadMedium.TheImpl.{ghosts}
use Rattle.cfb_fat.specs.Keeping.{own_cause}
use Rattle.cfb_fat.specs.Tables.{has_failed_here, medium_of, IsJustifiedBySectors}
use Rattle.cfb_fat.specs.declared.allocator.Allocator.{Allocator}
use Rattle.cfb_copying.specs.Chains.{IsJustifiedByEither}

module _ (x z : Allocator MemoryMedium ghosts) (e : Error) (live : has_failed_here x ≡ false) (cause : IsJustifiedBySectors x z e) where
  no_device : e ≡ Device → ⊥
  no_device is = let wrong = (cause (medium_of x) tt).device is (omega arith) in omega (arith, wrong)

  never_failed : e ≡ Failed → ⊥
  never_failed is = let wrong = (cause (medium_of x) tt).earlier is in let same = live in cc

module _ {F : Type 0} {g : Ghosts F} where
  -- so an error of a copy in memory has its cause in the file that is read, or needs none
  pub read_cause : (a b : Allocator F g) (x z : Allocator MemoryMedium ghosts) (e : Error) → has_failed_here x ≡ false → IsJustifiedByEither a b x z e → IsJustifiedBySectors a b e
  read_cause a b x z e live cause = ⊎_elim (λ read. read) (λ written. own_cause a b e (no_device x z e live written) (λ is. absurd (never_failed x z e live written is))) cause
