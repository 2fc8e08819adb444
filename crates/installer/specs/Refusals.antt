-- Why no session begins.
use Rattle.std.specs.Prelude.{◌≡◌, ◌⊎◌, ◌<◌, ◌-◌, ◌^◌, ℕ, [], List, Some, false, IsTrue}
use Rattle.cfb_medium.specs.Calls.{IsFaultOrInvalidInputIf}
use Rattle.cfb_medium.specs.declared.error.Error.{Error}
use Rattle.cfb_medium.specs.declared.error.Error.TheVariants.{InvalidData, InvalidInput, AlreadyExists, Device, Failed}
use Rattle.cfb_tree_edits.specs.LiveTreeRules.{IsFaultOrFull}
use Rattle.cfb_tree.specs.Names.{CaseTable}
use Rattle.msi.specs.Changing.{IsChangeError}
use Rattle.msi.specs.Opened.{AreBytesRejected}
use Rattle.msi_spec.specs.Opening.{keeps_encoded_names}
use Rattle.msi_stored.specs.Reading.{IsOpeningError}
use Rattle.staged.specs.Log.{recovered, logged, MalformedLog}
use Rattle.staged.specs.declared.device.Device.{Ghosts}

module _ {D : Type 0} (g : Ghosts D) (old new : D) (e : Error) where
  -- where it names the device, the device has failed, and counted it
  abbrev pub IsCountedFailure : Type 0
  IsCountedFailure = e ≡ Device → g.failures old < 2 ^ 64 - 1 → g.failures old < g.failures new

  -- a fault of a device that was just recovered: where it is named, it failed and counted it, and it had no earlier one
  abbrev pub IsFreshFault : Type 0
  IsFreshFault = IsCountedFailure × (e ≡ Failed → ⊥)

  -- the log is malformed
  abbrev pub IsMalformed : Type 0
  IsMalformed = (e ≡ InvalidData) × (IsTrue (g.honest old) → logged (g.content old) ≡ MalformedLog)

-- A malformed log; a home file that isn't empty once recovered; a case table that touches encoded names; or a fault. On a device that isn't
-- honest, what a new package is refused for over any medium.
pub record IsSessionCreateError (letters : CaseTable) {D : Type 0} (g : Ghosts D) (old new : D) (e : Error) : Type 0 where
  pub kind : IsMalformed g old new e
      ⊎ (((e ≡ AlreadyExists) × (IsTrue (g.honest old) → ¬ (recovered (g.content old) ≡ Some [])))
      ⊎ (((e ≡ InvalidInput) × (keeps_encoded_names letters ≡ false)) ⊎ (IsFaultOrFull e ⊎ ((IsTrue (g.honest old) → ⊥) × IsChangeError e))))
  pub fault : IsFreshFault g old new e

-- a malformed log; a fault; or what the package of the home file is refused for, once recovered
pub record IsSessionOpenError (letters : CaseTable) {D : Type 0} (g : Ghosts D) (old new : D) (e : Error) : Type 0 where
  pub kind : IsTrue (g.honest old) → IsMalformed g old new e ⊎ (IsFaultOrInvalidInputIf ⊥ e
      ⊎ ((bytes : List ℕ) × (recovered (g.content old) ≡ Some bytes) × AreBytesRejected letters bytes e))
  -- on any device
  pub told : IsOpeningError e
  pub fault : IsFreshFault g old new e
