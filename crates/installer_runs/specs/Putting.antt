-- A stream of a package that gets the bytes of a source on a device.
use Rattle.std.specs.Prelude.{◌≡◌, ◌⊎◌, ℕ, All, Err, List, [], Ok, Result, IsTrue, Some}
use Rattle.cfb_medium.specs.declared.error.Error.{Error}
use Rattle.cfb_medium.specs.declared.medium.ReadMedium as medium
use Rattle.cfb_tree.specs.Names.{CaseTable}
use Rattle.installer.specs.CrashSurvival.{IsRecovered, SurvivesCrash}
use Rattle.installer.specs.Pieces.{RunsPut}
use Rattle.installer.specs.SessionStates.{BegunCommit}
use Rattle.installer.specs.Sessions.{device_below, package_in, session_case_table}
use Rattle.installer.specs.declared.session.SessionOver.{SessionOver}
use Rattle.installer_runs.specs.Making.{CommitsLast}
use Rattle.msi.specs.Committing.{BytesHoldPackage}
use Rattle.msi.specs.Pieces.{PutsFrom}
use Rattle.msi_spec.specs.Package.{PackageContent}
use Rattle.msi_spec.specs.Streams.{stream_written}
use Rattle.staged.specs.Committed.{HasPublished}
use Rattle.staged.specs.Log.{recovered}
use Rattle.staged.specs.declared.device.Device.{Ghosts}
use Rattle.staged.specs.declared.staged.Staged.{Staged}

module _ (letters : CaseTable) where
  -- the home file, once recovered, holds this package, sound
  pub record HoldsSound {D : Type 0} (g : Ghosts D) (old : D) (P : PackageContent) : Type 0 where
    pub bytes : List ℕ
    pub given : recovered (g.content old) ≡ Some bytes
    pub held : BytesHoldPackage letters bytes P

  module _ {S : Type 0} (k : medium.Ghosts S) (source : S) (name : List ℕ) (P : PackageContent) where
    -- the package with the stream of this name put: with all bytes of an honest source, or some bytes of another
    pub record IsPut (Q : PackageContent) : Type 0 where
      pub content : List ℕ
      pub whole : IsTrue (k.honest source) → content ≡ k.bytes source
      pub made : stream_written letters P name content ≡ Ok Q

    -- THE STREAM WAS PUT: bytes were published that hold the package with it
    pub record PutsOn {D : Type 0} (g : Ghosts D) (new : D) : Type 0 where
      pub held : PackageContent
      pub is_put : IsPut held
      pub bytes : List ℕ
      pub published : HasPublished g new bytes
      pub found : IsRecovered letters bytes held

    -- what a recovery gives meanwhile and then: what it might have given before, or the package with the stream put
    abbrev pub PutSurvivesCrash : {D : Type 0} → Ghosts D → D → D → Type 0
    PutSurvivesCrash g old new = (marks : List BegunCommit) × All (λ (m : BegunCommit). IsPut m.held) marks × SurvivesCrash letters g old new marks

-- a put, and a commit behind it where it was done, as the last calls of a session, which gives the device back (a step of private functions)
pub record PutsLast {S : Type 0} (k : medium.Ghosts S) (source : S) (name : List ℕ) {D : Type 0} {g : Ghosts D} {h : medium.Ghosts (Staged D g)} (result : Result (Unit {0}) Error) (old : SessionOver (Staged D g) h) (device : D) : Type 0 where
  pub mid : SessionOver (Staged D g) h
  pub either : (RunsPut k source name old mid × CommitsLast result mid device)
      ⊎ ((e : Error) × (result ≡ Err e) × PutsFrom k source name (Err e) (package_in old) (package_in mid) × SurvivesCrash (session_case_table old) g (device_below old) (device_below mid) [] × (device ≡ device_below mid))
