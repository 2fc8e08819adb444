-- Bytes that are committed to an empty home file, and a package in memory that is let go.
use Rattle.std.proofs.Common.{◌≡◌, ◌∙◌, ◌⊎◌, ◌≤◌, ℕ, Bool, List, [], Ok, Err, Result, Some, ap, inl, inr, refl, subst, sym, true, ⊎_elim}
use Rattle.std.specs.Prelude.{IfErr, IsTrue, OnOk}
use Rattle.cfb.proofs.Copies.{over_nothing}
use Rattle.cfb.specs.Views.{file_case_table}
use Rattle.cfb_medium.specs.Bytes.{overwritten}
use Rattle.cfb_medium.specs.Calls.{IsFaultOrInvalidInputIf}
use Rattle.cfb_medium.specs.declared.error.Error.{Error}
use Rattle.cfb_medium.specs.declared.error.Error.TheVariants.{AlreadyExists, Device, Failed, Full, InvalidData, InvalidInput, Memory, NotFound, UnexpectedEof}
use Rattle.cfb_medium.specs.declared.medium.ReadMedium as medium
use Rattle.installer.proofs.Begun.{counted_later}
use Rattle.installer.specs.Refusals.{IsFreshFault}
use Rattle.installer_runs.proofs.Copied.{fault_uncopied}
use Rattle.installer_runs.specs.Copying.{CopiesOn}
use Rattle.installer_runs.specs.Moving.{AreBytesRefused, BytesSurviveCrash, IsMoveRefusal}
use Rattle.msi.specs.Committing.{BytesKeepPackage}
use Rattle.msi.specs.Opened.{PackageHasContent, file_in, sound_in}
use Rattle.msi.specs.declared.package.Package.{Package}
use Rattle.msi_spec.specs.Package.{PackageContent}
use Rattle.staged.specs.Committed.{HasPublished}
use Rattle.staged.specs.Log.{recovered}
use Rattle.staged.specs.Staged.{device_of, PublishesBytes, staged_bytes}
use Rattle.staged.specs.declared.device.Device.{Ghosts}
use Rattle.staged.specs.declared.staged.Staged.{Staged}

-- bytes that were written to an empty medium
pub written_is : (old mid bytes : List ℕ) → old ≡ [] → mid ≡ overwritten old 0 bytes → mid ≡ bytes
written_is old mid bytes empty written = written ∙ ap (λ (l : List ℕ). overwritten l 0 bytes) empty ∙ over_nothing bytes

module _ {D : Type 0} (g : Ghosts D) where
  -- bytes that were written in memory were published
  pub published_is : (mid new : Staged D g) (bytes : List ℕ) → staged_bytes mid ≡ bytes → (r : Result (Unit {0}) Error) → OnOk r (PublishesBytes mid new) → OnOk r (HasPublished g (device_of new) bytes)
  published_is mid new bytes same (Ok u) published = subst (λ (b : List ℕ). HasPublished g (device_of new) b) same published
  published_is mid new bytes same (Err e) published = tt

  -- the device that is given back is that of the medium
  pub published_there : (bytes : List ℕ) (r : Result (Unit {0}) Error) (Empty : Type 0) (a b : D) → b ≡ a → Empty → OnOk r (HasPublished g a bytes) → OnOk r (Empty × HasPublished g b bytes)
  published_there bytes (Ok u) Empty a b same empty published = (empty, subst (λ (d : D). HasPublished g d bytes) (sym same) published)
  published_there bytes (Err e) Empty a b same empty published = tt

  -- over a home file that was empty
  pub published_on : (old new : D) (bytes shown : List ℕ) → recovered (g.content old) ≡ Some shown → (r : Result (Unit {0}) Error) → OnOk r ((shown ≡ []) × HasPublished g new bytes)
      → OnOk r ((recovered (g.content old) ≡ Some []) × HasPublished g new bytes)
  published_on old new bytes shown given (Ok u) told = (given ∙ ap Some told.0, told.1)
  published_on old new bytes shown given (Err e) told = tt

  pub bytes_along : (bytes : List ℕ) (a b c d : D) → a ≡ b → d ≡ c → BytesSurviveCrash g bytes a c → BytesSurviveCrash g bytes b d
  bytes_along bytes a b c d first last survives = subst (λ (x : D). BytesSurviveCrash g bytes b x) (sym last) (subst (λ (x : D). BytesSurviveCrash g bytes x c) first survives)

  pub fresh_along : (r : Result (Unit {0}) Error) (a b c d : D) → a ≡ b → d ≡ c → IfErr r (IsFreshFault g a c) → IfErr r (IsFreshFault g b d)
  fresh_along r a b c d first last fresh = subst (λ (x : D). IfErr r (IsFreshFault g b x)) (sym last) (subst (λ (x : D). IfErr r (IsFreshFault g x c)) first fresh)

  -- bytes that are refused, of a device that was recovered
  pub bytes_refused : (old mid new : D) (bytes : List ℕ) → recovered (g.content old) ≡ Some bytes → g.failures old ≤ g.failures mid → g.failures mid ≤ g.failures new → (r : Result (Unit {0}) Error)
      → IfErr r (λ e. ((e ≡ AlreadyExists) × (bytes ≡ [] → ⊥)) ⊎ IsFaultOrInvalidInputIf ⊥ e) → IfErr r (IsFreshFault g mid new) → IfErr r (AreBytesRefused g old new)
  bytes_refused old mid new bytes given first second (Ok u) kind cause = tt
  bytes_refused old mid new bytes given first second (Err e) kind cause = record {
    kind = ⊎_elim (λ there. inr (inl (there.0, λ empty. there.1 (same empty)))) (λ fault. inr (inr fault)) kind;
    cause = (counted_later g old mid new e first cause.0 second, cause.1);
  }
    where
      same : recovered (g.content old) ≡ Some [] → bytes ≡ []
      same empty = let is : Some bytes ≡ Some [] = sym given ∙ empty in cc

  -- a fault that isn't the device's, and is an earlier one only where there was one
  pub own_cause : (old new : D) (failed : Bool) (e : Error) → (e ≡ Device → ⊥) → (e ≡ Failed → failed ≡ true) → ((e ≡ Failed) × (failed ≡ true)) ⊎ IsFreshFault g old new e
  own_cause old new failed Failed other is = inl (refl, is refl)
  own_cause old new failed Device other is = absurd (other refl)
  own_cause old new failed InvalidData other is = inr (λ device. absurd (other device), λ (same : InvalidData ≡ Failed). cc)
  own_cause old new failed InvalidInput other is = inr (λ device. absurd (other device), λ (same : InvalidInput ≡ Failed). cc)
  own_cause old new failed NotFound other is = inr (λ device. absurd (other device), λ (same : NotFound ≡ Failed). cc)
  own_cause old new failed AlreadyExists other is = inr (λ device. absurd (other device), λ (same : AlreadyExists ≡ Failed). cc)
  own_cause old new failed UnexpectedEof other is = inr (λ device. absurd (other device), λ (same : UnexpectedEof ≡ Failed). cc)
  own_cause old new failed Full other is = inr (λ device. absurd (other device), λ (same : Full ≡ Failed). cc)
  own_cause old new failed Memory other is = inr (λ device. absurd (other device), λ (same : Memory ≡ Failed). cc)

  module _ {F : Type 0} {k : medium.Ghosts F} (source : Package F k) (old new : D) where
    -- what was published keeps the package
    pub moved_on : (bytes : List ℕ) (r : Result (Unit {0}) Error) → OnOk r ((recovered (g.content old) ≡ Some []) × HasPublished g new bytes)
        → ((P : PackageContent) → PackageHasContent source P → IsTrue (sound_in source) → BytesKeepPackage (file_case_table (file_in source)) bytes P) → OnOk r (CopiesOn source g old new)
    moved_on bytes (Ok u) told keeps = record { empty = told.0; copied = λ P held sound. (bytes, told.1, keeps P held sound) }
    moved_on bytes (Err e) told keeps = tt

    pub unmoved : (e : Error) → AreBytesRefused g old new e → IsMoveRefusal source g old new e
    unmoved e told = record {
      kind = ⊎_elim (λ malformed. inl malformed) (λ rest. inr (⊎_elim (λ there. inl there) (λ fault. inr (fault_uncopied source e fault)) rest)) told.kind;
      cause = inr told.cause;
    }
