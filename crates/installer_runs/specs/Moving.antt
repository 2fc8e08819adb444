-- A package in memory that is committed to a device and let go.
use Rattle.std.specs.Prelude.{◌≡◌, ◌⊎◌, ℕ, All, List, [], Some, true}
use Rattle.cfb_medium.specs.Calls.{IsFaultOrInvalidInputIf}
use Rattle.cfb_medium.specs.declared.error.Error.{Error}
use Rattle.cfb_medium.specs.declared.error.Error.TheVariants.{AlreadyExists, Failed}
use Rattle.cfb_medium.specs.declared.medium.ReadMedium as medium
use Rattle.cfb_tree.specs.Names.{CaseTable}
use Rattle.installer.specs.SessionStates.{BegunCommit}
use Rattle.installer.specs.Refusals.{IsFreshFault, IsMalformed}
use Rattle.installer.specs.CrashSurvival.{SurvivesCrash}
use Rattle.installer_runs.specs.Copying.{IsUncopied}
use Rattle.msi.specs.Changing.{failed_in}
use Rattle.msi.specs.Committing.{BytesKeepPackage}
use Rattle.msi.specs.declared.package.Package.{Package}
use Rattle.msi_spec.specs.Package.{PackageContent}
use Rattle.staged.specs.Log.{recovered}
use Rattle.staged.specs.declared.device.Device.{Ghosts}

module _ {D : Type 0} (g : Ghosts D) where
  -- what a recovery gives meanwhile and then: what it might have given before, or whichever package these bytes keep
  abbrev pub BytesSurviveCrash : List ℕ → D → D → Type 0
  BytesSurviveCrash bytes old new = (letters : CaseTable) (P : PackageContent) → BytesKeepPackage letters bytes P
      → (marks : List BegunCommit) × All (λ (m : BegunCommit). m.held ≡ P) marks × SurvivesCrash letters g old new marks

  -- why bytes aren't committed: the log is malformed; the home file isn't empty once recovered; or a fault, whose cause is told
  pub record AreBytesRefused (old new : D) (e : Error) : Type 0 where
    pub kind : IsMalformed g old new e ⊎ (((e ≡ AlreadyExists) × ¬ (recovered (g.content old) ≡ Some [])) ⊎ IsFaultOrInvalidInputIf ⊥ e)
    pub cause : IsFreshFault g old new e

-- THE PACKAGE ISN'T MOVED: for a malformed log; for a home file that isn't empty once recovered; or since the package isn't copied. Where the error
-- names the device, that failed, and the failure was counted; an earlier fault is the package's alone.
pub record IsMoveRefusal {F : Type 0} {k : medium.Ghosts F} (source : Package F k) {D : Type 0} (g : Ghosts D) (old new : D) (e : Error) : Type 0 where
  pub kind : IsMalformed g old new e ⊎ (((e ≡ AlreadyExists) × ¬ (recovered (g.content old) ≡ Some [])) ⊎ IsUncopied source e)
  pub cause : ((e ≡ Failed) × (failed_in source ≡ true)) ⊎ IsFreshFault g old new e
