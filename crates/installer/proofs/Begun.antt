-- Sessions that begin, and why none does.
use Rattle.std.proofs.Common.{◌≡◌, ◌⊎◌, ◌<◌, ◌≤◌, ◌-◌, ◌^◌, ◌∙◌, ℕ, Bool, true, [], List, Some, ap, false, inl, inr, refl, subst, sym, ⊎_elim}
use Rattle.std.specs.Prelude.{IsTrue, None, Option}
use Rattle.cfb_medium.specs.Calls.{IsFaultOrInvalidInputIf}
use Rattle.cfb_medium.specs.Crashes.{CrashLeavesOnly}
use Rattle.cfb_medium.specs.declared.error.Error.{Error}
use Rattle.cfb_tree_edits.specs.LiveTreeRules.{IsFaultOrFull}
use Rattle.cfb_medium.specs.declared.error.Error.TheVariants.{Device, Failed, InvalidData, InvalidInput}
use Rattle.cfb_medium.specs.declared.medium.ReadMedium.{Ghosts}
use Rattle.cfb_tree.specs.Names.{CaseTable}
use Rattle.msi.specs.Changing.{failed_in, IsChangeError}
use Rattle.msi.proofs.OpenAgain.{never_refused}
use Rattle.msi.specs.Creating.{IsNewRefusal}
use Rattle.msi.specs.Committing.{BytesHoldPackage}
use Rattle.msi.specs.Opened.{AreBytesRejected, PackageHasContent}
use Rattle.msi_spec.specs.Opening.{keeps_encoded_names}
use Rattle.msi_spec.specs.Package.{PackageContent}
use Rattle.msi_stored.specs.Reading.{IsOpeningError}
use Rattle.staged.specs.Device.{DeviceRests}
use Rattle.staged.specs.Files.{Files}
use Rattle.staged.specs.Log.{logged, recovered, MalformedLog}
use Rattle.staged.specs.Recovery.{IsMalformedOrFault}
use Rattle.staged.specs.Steps.{RecoversAlike}
use Rattle.staged.specs.declared.device.Device as device
use Rattle.staged.specs.declared.staged.Staged.{Staged}
use Rattle.installer.proofs.Recovering.{faults, never_recovered}
use Rattle.installer.proofs.Stopping.{begun_survives}
use Rattle.installer.specs.Refusals.{IsCountedFailure, IsMalformed}
use Rattle.installer.specs.Sessions.{beginning, has_base, is_sound, package_in, phase_of, IsAt, IsPublished, SessionIsAt}
use Rattle.installer.specs.CrashSurvival.{SurvivesCrash}
use Rattle.installer.specs.declared.session.SessionOver.{SessionOver}

-- a session with a package that is held, and has not failed, is at its beginning
pub begins_at : {F : Type 0} {g : Ghosts F} (s : SessionOver F g) (base : Option PackageContent) (P : PackageContent) → failed_in (package_in s) ≡ false → PackageHasContent (package_in s) P → IsAt (package_in s) (beginning s base P)
begins_at s base P live held = record { phase = ap phase_of (sym live); held = λ _. held; failures = refl; sound = refl }

module _ {D : Type 0} {g : device.Ghosts D} {h : Ghosts (Staged D g)} (s : SessionOver (Staged D g) h) (P : PackageContent) (live : failed_in (package_in s) ≡ false) (held : PackageHasContent (package_in s) P) where
  -- over an empty home file
  pub begins_new : has_base s ≡ false → SessionIsAt s (beginning s None P)
  begins_new none = record { place = begins_at s None P live held; based = sym none; base = λ _ B is. absurd (cc is) }

  -- over one of which the package was found
  pub begins_found : has_base s ≡ true → (is_sound s ≡ true → IsPublished s P) → SessionIsAt s (beginning s (Some P) P)
  begins_found some found = record {
    place = begins_at s (Some P) P live held;
    based = sym some;
    base = λ sound B is. (let same : P ≡ B = cc is in subst (λ (Q : PackageContent). IsPublished s Q) same (found sound));
  }

module _ {D : Type 0} (g : device.Ghosts D) (old : D) where
  -- a recovery was refused
  pub malformed_or_fault : (new : D) (e : Error) → IsMalformedOrFault g.failures old new e → (IsTrue (g.honest old) → e ≡ InvalidData → logged (g.content old) ≡ MalformedLog)
      → IsMalformed g old new e ⊎ (e ≡ Device)
  malformed_or_fault new e is told = ⊎_elim (λ malformed. inl (malformed, λ honest. told honest malformed)) (λ fault. inr fault) is.kind

  -- a failure that was counted after the recovery was counted since
  pub counted_later : (mid new : D) (e : Error) → g.failures old ≤ g.failures mid → (e ≡ Device → g.failures mid < 2 ^ 64 - 1 → g.failures mid < g.failures new) → g.failures mid ≤ g.failures new
      → IsCountedFailure g old new e
  counted_later mid new e first count second = λ is less. faults (g.failures old) (g.failures mid) (g.failures new) less first second (count is)

-- what refuses a recovery may refuse an opening
pub recovery_kinds : (e : Error) → (e ≡ InvalidData) ⊎ (e ≡ Device) → IsOpeningError e
recovery_kinds e (inl malformed) = inr (inl malformed)
recovery_kinds e (inr device) = inl (subst (IsFaultOrInvalidInputIf ⊥) (sym device) tt)

pub device_is_fault : (e : Error) → e ≡ Device → IsFaultOrFull e
device_is_fault e is = subst IsFaultOrFull (sym is) (inl tt)

-- a recovery is refused by no earlier fault
pub recovered_fresh : (e : Error) → (e ≡ InvalidData) ⊎ (e ≡ Device) → e ≡ Failed → ⊥
recovered_fresh e kind is = ⊎_elim (λ malformed. (let never : Failed ≡ InvalidData = sym is ∙ malformed in cc)) (λ device. (let never : Failed ≡ Device = sym is ∙ device in cc)) kind

-- a new package is refused for a fault, or the device isn't honest
pub new_refused : (honest : Bool) (letters : CaseTable) (e : Error) → (IsTrue honest → IsNewRefusal letters e) → IsChangeError e
    → ((e ≡ InvalidInput) × (keeps_encoded_names letters ≡ false)) ⊎ (IsFaultOrFull e ⊎ ((IsTrue honest → ⊥) × IsChangeError e))
new_refused true letters e of_honest any = ⊎_elim (λ used. inl used) (λ fault. inr (inl fault)) (of_honest refl)
new_refused false letters e of_honest any = inr (inr (λ honest. (let never : false ≡ true = honest in cc), any))

-- a medium that was recovered, and what goes on over it without publishing
module _ {D : Type 0} (g : device.Ghosts D) (counts_now : (d : D) (t : ℕ) (left : Files) → t ≤ g.moment d → g.crash_may_leave d left → g.crash_left_since d t left)
    (rests_keeps : (a b : D) → g.rests a b → DeviceRests g.honest g.content g.writes g.failures a b) (rests_leaves : (a b : D) → g.rests a b → CrashLeavesOnly g.moment g.crash_left_since a b (g.crash_may_leave a))
    (a b c : D) (honest : g.honest b ≡ g.honest a) (counted : g.failures a ≤ g.failures b) (recovers : IsTrue (g.honest a) → CrashLeavesOnly g.moment g.crash_left_since a b (RecoversAlike (g.crash_may_leave a)))
    (rests : g.rests b c) where
  pub began_survives : (letters : CaseTable) → SurvivesCrash letters g a c []
  began_survives letters = let keeps = rests_keeps b c rests in begun_survives g counts_now letters a b c honest counted recovers (sym keeps.as_honest) keeps.counted (rests_leaves b c rests)

  pub began_counted : (e : Error) → (e ≡ Device → g.failures b < 2 ^ 64 - 1 → g.failures b < g.failures c) → IsCountedFailure g a c e
  began_counted e count = counted_later g a b c e counted count (rests_keeps b c rests).counted

-- bytes that hold a sound package are refused by no rule
module _ {D : Type 0} (g : device.Ghosts D) (letters : CaseTable) (old new : D) (bytes : List ℕ) (P : PackageContent) (given : recovered (g.content old) ≡ Some bytes) (holds : BytesHoldPackage letters bytes P) where
  pub same_bytes : (other : List ℕ) → recovered (g.content old) ≡ Some other → other ≡ bytes
  same_bytes other is = let same : Some other ≡ Some bytes = sym is ∙ given in cc

  pub reopen_fault : (e : Error) → IsTrue (g.honest old) → IsMalformed g old new e ⊎ (IsFaultOrInvalidInputIf ⊥ e ⊎ ((other : List ℕ) × (recovered (g.content old) ≡ Some other) × AreBytesRejected letters other e))
      → IsFaultOrInvalidInputIf ⊥ e
  reopen_fault e honest kind = ⊎_elim (λ malformed. absurd (never_recovered (g.content old) bytes (malformed.1 honest) given))
      (λ more. ⊎_elim (λ fault. fault) (λ refused. absurd (never_refused letters bytes P holds e (subst (λ b. AreBytesRejected letters b e) (same_bytes refused.0 refused.1) refused.2))) more) kind
