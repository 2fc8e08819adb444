-- A session as what is seen of it.
use Rattle.std.specs.Prelude.{◌≡◌, ℕ, Bool, true, false, List, Option, Some, is_some, IsTrue}
use Rattle.cfb.specs.Publishing.{medium_in}
use Rattle.cfb.specs.Views as file
use Rattle.cfb_medium.specs.declared.medium.ReadMedium.{Ghosts}
use Rattle.cfb_tree.specs.Names.{CaseTable}
use Rattle.msi.specs.Changing.{failed_in}
use Rattle.msi.specs.Opened.{PackageHasContent, file_in, sound_in}
use Rattle.msi.specs.declared.package.Package.{Package}
use Rattle.msi_spec.specs.Opening.{keeps_encoded_names}
use Rattle.msi_spec.specs.Package.{PackageContent}
use Rattle.staged.specs.Committed.{HasPublished}
use Rattle.staged.specs.Staged.{device_of}
use Rattle.staged.specs.declared.device.Device as device
use Rattle.staged.specs.declared.staged.Staged.{Staged}
use Rattle.installer.specs.Behaviour.{Condition}
use Rattle.installer.specs.SessionStates.{SessionState, Phase, running, failed}
use Rattle.installer.specs.CrashSurvival.{IsRecovered}
use Rattle.installer.specs.declared.session.SessionOver.{SessionOver}

abbrev pub phase_of : Bool → Phase
phase_of true = failed
phase_of false = running

module _ {F : Type 0} {g : Ghosts F} where
  -- The package is at this place of a course. Its rows and streams lie in the file, so this is a relation.
  pub record IsAt (it : Package F g) (course : SessionState) : Type 0 where
    pub phase : course.phase ≡ phase_of (failed_in it)
    pub held : course.phase ≡ running → PackageHasContent it course.held
    pub failures : course.failures ≡ g.failures (medium_in (file_in it))
    pub sound : course.sound ≡ sound_in it

  -- its package
  abbrev pub package_in : SessionOver F g → Package F g
  package_in s = s.package

  -- a fault has ended it
  abbrev pub is_failed : SessionOver F g → Bool
  is_failed s = failed_in (package_in s)

  -- a fault of the medium itself has ended it
  abbrev pub has_medium_failed : SessionOver F g → Bool
  has_medium_failed s = g.failed (medium_in (file_in (package_in s)))

  -- whether its package is sound
  abbrev pub is_sound : SessionOver F g → Bool
  is_sound s = sound_in (package_in s)

  -- by which names are told apart
  abbrev pub session_case_table : SessionOver F g → CaseTable
  session_case_table s = file.file_case_table (file_in (package_in s))

  -- whether a package was opened or committed to which a roll back leads
  abbrev pub has_base : SessionOver F g → Bool
  has_base s = s.has_base

  -- how it stands
  abbrev pub condition_of : SessionOver F g → Condition
  condition_of s = record { failed = is_failed s; sound = is_sound s; failures = g.failures (medium_in (file_in (package_in s))) }

  -- the place at which it begins with a package that is held, and one to which a roll back leads
  abbrev pub beginning : SessionOver F g → Option PackageContent → PackageContent → SessionState
  beginning s base P =
      record { held = P; base = base; failures = g.failures (medium_in (file_in (package_in s))); phase = running; sound = is_sound s }

module _ {D : Type 0} {g : device.Ghosts D} {h : Ghosts (Staged D g)} where
  -- the device below it
  abbrev pub device_below : SessionOver (Staged D g) h → D
  device_below s = device_of (medium_in (file_in (package_in s)))

  -- what the device has published last is found to be this package, and its medium has not failed
  pub record IsPublished (s : SessionOver (Staged D g) h) (B : PackageContent) : Type 0 where
    pub honest : IsTrue (g.honest (device_below s))
    pub live : h.failed (medium_in (file_in (package_in s))) ≡ false
    pub usable : keeps_encoded_names (session_case_table s) ≡ true
    pub bytes : List ℕ
    pub published : HasPublished g (device_below s) bytes
    pub found : IsRecovered (session_case_table s) bytes B

  -- The session is at this place of a course: so is its package, and what a roll back would find was published.
  pub record SessionIsAt (s : SessionOver (Staged D g) h) (course : SessionState) : Type 0 where
    pub place : IsAt (package_in s) course
    pub based : is_some course.base ≡ has_base s
    pub base : course.sound ≡ true → (B : PackageContent) → course.base ≡ Some B → IsPublished s B
