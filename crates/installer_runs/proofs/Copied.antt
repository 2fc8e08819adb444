-- A copy that is committed.
use Rattle.std.proofs.Common.{◌≡◌, ◌∙◌, ◌⊎◌, ◌≤◌, ℕ, Bool, List, [], ◌∷◌, Ok, Err, Result, Some, Option, ap, arith, false, true, get_or, inl, inr, ⊎_elim, refl, subst, sym}
use Rattle.std.specs.Prelude.{All, IfErr, IsTrue, OnOk}
use Rattle.cfb.specs.Views.{file_case_table, mini_of}
use Rattle.cfb_fat.specs.Tables.{IsJustifiedBySectors}
use Rattle.cfb_mini.specs.Views.{allocator_of}
use Rattle.cfb_medium.specs.Crashes.{CrashLeavesOnly}
use Rattle.cfb_medium.specs.Calls.{IsFaultOrInvalidInputIf}
use Rattle.cfb_medium.specs.declared.error.Error.{Error}
use Rattle.cfb_medium.specs.declared.error.Error.TheVariants.{AlreadyExists, Failed, InvalidData}
use Rattle.cfb_medium.specs.declared.medium.ReadMedium as medium
use Rattle.cfb_tree.specs.Names.{CaseTable}
use Rattle.installer.proofs.Stopping.{survives_commit, survives_rest, survives_then}
use Rattle.installer.proofs.Begun.{counted_later}
use Rattle.installer.specs.SessionStates.{BegunCommit}
use Rattle.installer.specs.Refusals.{IsFreshFault}
use Rattle.installer.specs.CrashSurvival.{gives, given_since, IsRecovered, IsGiven, SurvivesCrash}
use Rattle.installer_runs.specs.Copying.{CopiesOn, IsPackageCopied, IsCopyRefusal, IsUncopied, CopySurvivesCrash}
use Rattle.msi.specs.Changing.{failed_in}
use Rattle.msi.specs.Committing.{BytesKeepPackage}
use Rattle.msi.specs.Copying.{PackageCopies}
use Rattle.msi.specs.Opened.{PackageHasContent, file_in, sound_in}
use Rattle.msi.specs.declared.package.Package.{Package}
use Rattle.msi_spec.specs.Package.{PackageContent}
use Rattle.staged.specs.Device.{DeviceRests}
use Rattle.staged.specs.Files.{Files}
use Rattle.staged.specs.Log.{recovered}
use Rattle.staged.specs.Staged.{device_of, staged_bytes, staged_may_leave, CrashLeavesOldOrNew, PublishesBytes}
use Rattle.staged.specs.declared.device.Device.{Ghosts}
use Rattle.staged.specs.declared.staged.Staged.{Staged}

same_error : (e f : Error) → ◌≡◌ {A = Result (Unit {0}) Error} (Err e) (Err f) → e ≡ f
same_error e f is = cc

-- one commit
pub one_mark : (m : BegunCommit) (Of : BegunCommit → Type 0) → Of m → All Of (m ∷ [])
one_mark m Of is = λ k d less. let first : k ≡ 0 = omega (arith, less) in subst (λ (j : ℕ). Of (get_or (m ∷ []) j d)) (sym first) is

-- and none
pub no_mark : (Of : BegunCommit → Type 0) → All Of []
no_mark Of = λ k d less. absurd (omega (arith, less))

module _ {D : Type 0} (g : Ghosts D) (letters : CaseTable) (counts_now : (d : D) (t : ℕ) (left : Files) → t ≤ g.moment d → g.crash_may_leave d left → g.crash_left_since d t left)
    (rests_keeps : (a b : D) → g.rests a b → DeviceRests g.honest g.content g.writes g.failures a b) (rests_leaves : (a b : D) → g.rests a b → CrashLeavesOnly g.moment g.crash_left_since a b (g.crash_may_leave a)) where
  -- a device that was only read
  pub rested_survives : (a b : D) → g.rests a b → SurvivesCrash letters g a b []
  rested_survives a b rests = let keeps = rests_keeps a b rests in survives_rest letters g counts_now a b (sym keeps.as_honest) keeps.counted (rests_leaves a b rests)

  module _ (start mid new : Staged D g) (P : PackageContent) (rests : g.rests (device_of start) (device_of mid)) (honest : g.honest (device_of new) ≡ g.honest (device_of mid))
      (counted : g.failures (device_of mid) ≤ g.failures (device_of new)) (left : CrashLeavesOldOrNew mid new) (found : IsRecovered letters (staged_bytes mid) P) where
    either : (given : Option (List ℕ)) → (staged_may_leave mid given ⊎ (given ≡ Some (staged_bytes mid))) → gives g (device_of mid) given ⊎ IsGiven (λ bytes. IsRecovered letters bytes P) given
    either given may = ⊎_elim (λ old. inl old) (λ is. inr (staged_bytes mid, is, found)) may

    leaves : CrashLeavesOnly g.moment (given_since g) (device_of mid) (device_of new) (λ given. gives g (device_of mid) given ⊎ IsGiven (λ bytes. IsRecovered letters bytes P) given)
    leaves = record {
      later = left.later;
      each = λ given since. either given (left.each given since);
      before = λ t given le since. ⊎_elim (λ past. inl past) (λ now. inr (either given now)) (left.before t given le since);
    }

    -- bytes that hold the package were written in memory, and then committed
    pub copied_survives : (result : Result (Unit {0}) Error) → OnOk result (PublishesBytes mid new) → (marks : List BegunCommit) × All (λ (m : BegunCommit). m.held ≡ P) marks × SurvivesCrash letters g (device_of start) (device_of new) marks
    copied_survives (Ok u) published = (
      record { held = P; done = true } ∷ [],
      one_mark (record { held = P; done = true }) (λ m. m.held ≡ P) refl,
      survives_then letters g (device_of start) (device_of mid) (device_of new) [] (record { held = P; done = true } ∷ []) (rested_survives (device_of start) (device_of mid) rests)
          (survives_commit letters g counts_now (device_of mid) (device_of new) (record { held = P; done = true }) honest counted (λ _. leaves) (inr (λ _ x now. (staged_bytes mid, published.left x now, found)))),
    )
    copied_survives (Err e) published = (
      record { held = P; done = false } ∷ [],
      one_mark (record { held = P; done = false }) (λ m. m.held ≡ P) refl,
      survives_then letters g (device_of start) (device_of mid) (device_of new) [] (record { held = P; done = false } ∷ []) (rested_survives (device_of start) (device_of mid) rests)
          (survives_commit letters g counts_now (device_of mid) (device_of new) (record { held = P; done = false }) honest counted (λ _. leaves) (inl refl)),
    )

module _ {F : Type 0} {k : medium.Ghosts F} (source : Package F k) {D : Type 0} (g : Ghosts D) where
  -- what was published is the copy
  pub copied_is : (mid new : Staged D g) (result : Result (Unit {0}) Error) → OnOk result (PublishesBytes mid new)
      → ((P : PackageContent) → PackageHasContent source P → IsTrue (sound_in source) → BytesKeepPackage (file_case_table (file_in source)) (staged_bytes mid) P) → OnOk result (IsPackageCopied source g (device_of new))
  copied_is mid new (Ok u) published holds = λ P held sound. (staged_bytes mid, published, holds P held sound)
  copied_is mid new (Err e) published holds = tt

  -- over a home file that was empty
  pub copies_on : (old new : D) (bytes : List ℕ) → recovered (g.content old) ≡ Some bytes → (result : Result (Unit {0}) Error) → OnOk result ((bytes ≡ []) × IsPackageCopied source g new) → OnOk result (CopiesOn source g old new)
  copies_on old new bytes given (Ok u) told = record { empty = given ∙ ap Some told.0; copied = told.1 }
  copies_on old new bytes given (Err e) told = tt

  -- the device that is given back is that of the medium
  pub copied_there : (result : Result (Unit {0}) Error) (Empty : Type 0) (a b : D) → b ≡ a → Empty → OnOk result (IsPackageCopied source g a) → OnOk result (Empty × IsPackageCopied source g b)
  copied_there (Ok u) Empty a b same empty copied = (empty, subst (IsPackageCopied source g) (sym same) copied)
  copied_there (Err e) Empty a b same empty copied = tt

  pub survives_along : (a b c d : D) → a ≡ b → d ≡ c → CopySurvivesCrash source g a c → CopySurvivesCrash source g b d
  survives_along a b c d first last survives = subst (λ (x : D). CopySurvivesCrash source g b x) (sym last) (subst (λ (x : D). CopySurvivesCrash source g x c) first survives)

  -- nothing was copied
  pub survives_none : (a b : D) → SurvivesCrash (file_case_table (file_in source)) g a b [] → CopySurvivesCrash source g a b
  survives_none a b survives = λ P held sound. ([], no_mark (λ m. m.held ≡ P), survives)

  pub survives_behind : (a b c : D) → SurvivesCrash (file_case_table (file_in source)) g a b [] → CopySurvivesCrash source g b c → CopySurvivesCrash source g a c
  survives_behind a b c first then = λ P held sound.
      let own = then P held sound in
      (own.0, own.1, survives_then (file_case_table (file_in source)) g a b c [] own.0 first own.2)

module _ {F : Type 0} {k : medium.Ghosts F} (source : Package F k) where
  -- a package that is held isn't copied, and was: what it is refused for
  pub uncopied : (honest : Type 0) (bytes : List ℕ) (e : Error) (new : Package F k) (P : PackageContent) → PackageHasContent source P → PackageCopies honest bytes (Err e) source new → IsUncopied source e
  uncopied honest bytes e new P held c = by (failed_in source) refl (sound_in source) refl
    where
      by : (failed : Bool) → failed_in source ≡ failed → (sound : Bool) → sound_in source ≡ sound → IsUncopied source e
      by true failed sound is = let of : e ≡ Failed = same_error e Failed (c.failed failed).0 in inr (inr (inl (subst (IsFaultOrInvalidInputIf ⊥) (sym of) tt)))
      by false live false unsound = let of : e ≡ InvalidData = same_error e InvalidData (c.unsound live unsound).0 in inl (of, unsound)
      by false live true sound = ⊎_elim (λ fault. inr (inr fault)) (λ long. inr (inl (long.0, long.1))) (c.refused P held sound)

  -- a fault of the commit behind it
  pub fault_uncopied : (e : Error) → IsFaultOrInvalidInputIf ⊥ e → IsUncopied source e
  fault_uncopied e fault = inr (inr (inl fault))

-- the same cause between equal devices
pub cause_along : {D : Type 0} (g : Ghosts D) (Below : Error → Type 0) (result : Result (Unit {0}) Error) (a b c d : D) → a ≡ b → d ≡ c → IfErr result (λ e. Below e ⊎ IsFreshFault g a c e)
    → IfErr result (λ e. Below e ⊎ IsFreshFault g b d e)
cause_along {D} g Below result a b c d first last cause =
    subst (λ (x : D). IfErr result (λ e. Below e ⊎ IsFreshFault g x d e)) first (subst (λ (x : D). IfErr result (λ e. Below e ⊎ IsFreshFault g a x e)) (sym last) cause)

pub count_along : {D : Type 0} (g : Ghosts D) (a b c d : D) → a ≡ b → d ≡ c → g.failures a ≤ g.failures c → g.failures b ≤ g.failures d
count_along {D} g a b c d first last counted = subst (λ (x : D). g.failures x ≤ g.failures d) first (subst (λ (x : D). g.failures a ≤ g.failures x) (sym last) counted)

-- a copy that is refused, of a device that was recovered
module _ {F : Type 0} {k : medium.Ghosts F} (before after : Package F k) {D : Type 0} (g : Ghosts D) (old mid new : D) where
  pub copy_refused : (bytes : List ℕ) → recovered (g.content old) ≡ Some bytes → g.failures old ≤ g.failures mid → g.failures mid ≤ g.failures new → (result : Result (Unit {0}) Error)
      → IfErr result (λ e. ((e ≡ AlreadyExists) × (bytes ≡ [] → ⊥)) ⊎ IsUncopied before e)
      → IfErr result (λ e. IsJustifiedBySectors (allocator_of (mini_of (file_in before))) (allocator_of (mini_of (file_in after))) e ⊎ IsFreshFault g mid new e) → IfErr result (IsCopyRefusal before after g old new)
  copy_refused bytes given first second (Ok u) kind cause = tt
  copy_refused bytes given first second (Err e) kind cause = record {
    kind = ⊎_elim (λ there. inr (inl (there.0, λ empty. there.1 (same empty)))) (λ un. inr (inr un)) kind;
    cause = ⊎_elim (λ below. inl below) (λ own. inr (counted_later g old mid new e first own.0 second, own.1)) cause;
  }
    where
      same : recovered (g.content old) ≡ Some [] → bytes ≡ []
      same empty = let is : Some bytes ≡ Some [] = sym given ∙ empty in cc

-- a package that isn't sound isn't copied
pub never_copied : {F : Type 0} {k : medium.Ghosts F} (source new : Package F k) (honest : Type 0) (bytes : List ℕ) (u : Unit {0}) → PackageCopies honest bytes (Ok u) source new → sound_in source ≡ false → ⊥
never_copied source new honest bytes u c unsound = by (failed_in source) refl
  where
    by : (failed : Bool) → failed_in source ≡ failed → ⊥
    by true failed = let never = (c.failed failed).0 in cc never
    by false live = let never = (c.unsound live unsound).0 in cc never

-- the same between equal devices
pub survives_between : {D : Type 0} (g : Ghosts D) (letters : CaseTable) (a b c d : D) → a ≡ b → d ≡ c → SurvivesCrash letters g a c [] → SurvivesCrash letters g b d []
survives_between {D} g letters a b c d first last survives = subst (λ (x : D). SurvivesCrash letters g b x []) (sym last) (subst (λ (x : D). SurvivesCrash letters g x c []) first survives)
