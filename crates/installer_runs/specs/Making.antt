-- A package that is made on a device.
use Rattle.std.specs.Prelude.{◌≡◌, ℕ, All, List, [], OnOk, Result, IsTrue, Some}
use Rattle.cfb_medium.specs.declared.error.Error.{Error}
use Rattle.cfb_medium.specs.declared.medium.ReadMedium as medium
use Rattle.cfb_tree.specs.Names.{CaseTable}
use Rattle.command_file.specs.Request as asked
use Rattle.installer.specs.SessionStates.{BegunCommit}
use Rattle.installer.specs.CommandRuns.{RunsCommand}
use Rattle.installer.specs.Sessions.{device_below, is_sound, session_case_table, package_in}
use Rattle.installer.specs.Step.{told_of}
use Rattle.installer.specs.CrashSurvival.{IsRecovered}
use Rattle.installer.specs.declared.session.SessionOver.{SessionOver}
use Rattle.msi.specs.Committing.{BytesHoldPackage}
use Rattle.msi.specs.Opened.{PackageHasContent}
use Rattle.msi_spec.specs.Calls.{IsNew}
use Rattle.msi_spec.specs.Package.{PackageContent}
use Rattle.msi_spec.specs.declared.kind.PackageType.TheVariants.{Installer}
use Rattle.staged.specs.Log.{recovered}
use Rattle.staged.specs.Committed.{HasPublished}
use Rattle.staged.specs.declared.device.Device.{Ghosts}
use Rattle.staged.specs.declared.staged.Staged.{Staged}

-- commits of new installer packages
abbrev pub AreOfNew : List BegunCommit → Type 0
AreOfNew marks = All (λ (m : BegunCommit). IsNew Installer m.held) marks

-- A PACKAGE WAS MADE: the home file was empty once recovered, and bytes were published that hold a new installer package, sound
pub record MakesOn (letters : CaseTable) {D : Type 0} (g : Ghosts D) (old new : D) : Type 0 where
  pub empty : recovered (g.content old) ≡ Some []
  pub held : PackageContent
  pub is_new : IsNew Installer held
  pub bytes : List ℕ
  pub published : HasPublished g new bytes
  pub found : BytesHoldPackage letters bytes held

-- a commit as the last call of a session, which gives the device back (a step of private functions)
pub record CommitsLast {D : Type 0} {g : Ghosts D} {h : medium.Ghosts (Staged D g)} (result : Result (Unit {0}) Error) (old : SessionOver (Staged D g) h) (device : D) : Type 0 where
  pub last : SessionOver (Staged D g) h
  pub follows : RunsCommand asked.commit (told_of result) old last
  pub published : OnOk result ((P : PackageContent) → PackageHasContent (package_in old) P → IsTrue (is_sound old) → (bytes : List ℕ) × HasPublished g (device_below last) bytes × IsRecovered (session_case_table old) bytes P)
  pub given : device ≡ device_below last
