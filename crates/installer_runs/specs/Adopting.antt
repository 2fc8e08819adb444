-- A package of another maker that gets right counts on its device.
use Rattle.std.specs.Prelude.{◌≡◌, ◌⊎◌, ◌≤◌, ℕ, All, IfErr, List, OnOk, Result, Some}
use Rattle.cfb_medium.specs.Calls.{IsFaultOrInvalidInputIf}
use Rattle.cfb_medium.specs.declared.error.Error.{Error}
use Rattle.cfb_medium.specs.declared.version.Version.{Version}
use Rattle.cfb_tree.specs.Names.{CaseTable}
use Rattle.cfb_tree.specs.Tree.{Tree}
use Rattle.installer.specs.CrashSurvival.{SurvivesCrash}
use Rattle.installer.specs.Refusals.{IsFreshFault, IsMalformed}
use Rattle.installer.specs.SessionStates.{BegunCommit}
use Rattle.msi.specs.Committing.{BytesHoldPackage}
use Rattle.msi_adopting.specs.Adopted.{HasLongText, IsPoolTooLong, IsUnadopted}
use Rattle.msi_adopting.specs.InPlace.{BytesHoldUncounted}
use Rattle.msi_recounted.specs.Recounted.{CanBeAdopted, recounted}
use Rattle.msi_spec.specs.Package.{PackageContent}
use Rattle.staged.specs.Committed.{HasPublished}
use Rattle.staged.specs.Log.{recovered}
use Rattle.staged.specs.Staged.{device_of, CrashLeavesOldOrNew, IsJustifiedByStaged, IsStagedHonest, PublishesBytes}
use Rattle.staged.specs.declared.device.Device.{Ghosts}
use Rattle.staged.specs.declared.staged.Staged.{Staged}

-- with right counts the package is longer than one can be: a text, or the first stream of its pool
abbrev pub IsTooLongToAdopt : PackageContent → Type 0
IsTooLongToAdopt P = HasLongText P ⊎ ((version : Version) × IsPoolTooLong version P)

module _ (letters : CaseTable) where
  -- a commit of the package that these bytes hold, with right counts; it can be adopted
  abbrev pub IsOfAdopted : List ℕ → BegunCommit → Type 0
  IsOfAdopted bytes m = (tree : Tree) (P : PackageContent) → BytesHoldUncounted letters bytes tree P → CanBeAdopted letters tree P × (m.held ≡ recounted P)

  module _ {D : Type 0} (g : Ghosts D) where
    -- the home file, once recovered, holds this package, sound or not
    pub record HoldsUncounted (old : D) (tree : Tree) (P : PackageContent) : Type 0 where
      pub bytes : List ℕ
      pub given : recovered (g.content old) ≡ Some bytes
      pub held : BytesHoldUncounted letters bytes tree P

    -- A PACKAGE WAS ADOPTED: it can be, and bytes were published that hold it with right counts, sound
    pub record AdoptsOn (tree : Tree) (P : PackageContent) (new : D) : Type 0 where
      pub can : CanBeAdopted letters tree P
      pub bytes : List ℕ
      pub published : HasPublished g new bytes
      pub found : BytesHoldPackage letters bytes (recounted P)

    -- what a recovery gives meanwhile and then: what it might have given before, or the package of these bytes, with right counts
    abbrev pub AdoptsFrom : List ℕ → D → D → Type 0
    AdoptsFrom bytes old new = (marks : List BegunCommit) × All (IsOfAdopted bytes) marks × SurvivesCrash letters g old new marks

    -- the same of the home file, once recovered
    abbrev pub AdoptionSurvivesCrash : D → D → Type 0
    AdoptionSurvivesCrash old new = (bytes : List ℕ) → recovered (g.content old) ≡ Some bytes → AdoptsFrom bytes old new

    -- THE PACKAGE ISN'T ADOPTED: the log is malformed; it can't be, or would be too long; or there was a fault. Where the error names the device,
    -- that failed, and the failure was counted.
    pub record IsAdoptionRefusal (old new : D) (tree : Tree) (P : PackageContent) (e : Error) : Type 0 where
      pub kind : IsMalformed g old new e ⊎ IsUnadopted letters tree P (IsTooLongToAdopt P) e
      pub cause : IsFreshFault g old new e

-- a commit as the last call on a medium, which gives the device back (a step of private functions)
pub record CommitsMedium {D : Type 0} {g : Ghosts D} (old : Staged D g) (device : D) (result : Result (Unit {0}) Error) : Type 0 where
  pub last : Staged D g
  pub given : device ≡ device_of last
  pub published : IsStagedHonest old → OnOk result (PublishesBytes old last)
  pub crash : IsStagedHonest old → CrashLeavesOldOrNew old last
  pub honest : g.honest (device_of last) ≡ g.honest (device_of old)
  pub counted : g.failures (device_of old) ≤ g.failures (device_of last)
  pub cause : IfErr result (IsJustifiedByStaged old last)
  pub errors : IfErr result (IsFaultOrInvalidInputIf ⊥)
