-- Why a package may not be changed, over any medium.
use Rattle.std.proofs.Common.{◌≡◌, ◌∙◌, Bool, ap, false, inl, inr, refl, subst, sym, true}
use Rattle.std.specs.Prelude.{◌||◌, ◌⊎◌, Err}
use Rattle.cfb.specs.Views.{mini_of}
use Rattle.cfb_fat.specs.Keeping.{own_cause}
use Rattle.cfb_fat.specs.Tables.{has_failed, has_failed_here, medium_of, IsJustifiedBySectors}
use Rattle.cfb_fat.specs.declared.allocator.Allocator.{Allocator}
use Rattle.cfb_medium.specs.declared.error.Error.{Error}
use Rattle.cfb_medium.specs.declared.error.Error.TheVariants.{Device, Failed, InvalidData}
use Rattle.cfb_medium.specs.declared.medium.ReadMedium.{Ghosts}
use Rattle.cfb_mini.specs.Views.{allocator_of}
use Rattle.msi.specs.Changing.{failed_in, permission, IsChangeError, IsRemovalError}
use Rattle.msi.specs.Opened.{file_in, sound_in}
use Rattle.msi.specs.declared.package.Package.{Package}

-- the refusal is that of a fault before, or broken data
refused_so : (failed sound : Bool) (e : Error) → permission failed sound ≡ Err e → ((e ≡ Failed) × (failed ≡ true)) ⊎ (e ≡ InvalidData)
refused_so true sound e is = (let same : e ≡ Failed = cc in inl (same, refl))
refused_so false true e is = absurd (cc)
refused_so false false e is = (let same : e ≡ InvalidData = cc in inr same)

-- a call but a commit keeps whether a medium has failed
module _ {F : Type 0} {g : Ghosts F} (keeps : (m n : F) → g.continues m n → g.failed m ≡ g.failed n) where
  failed_cause : (a : Allocator F g) (e : Error) → e ≡ Failed → has_failed a ≡ true → IsJustifiedBySectors a a e
  failed_cause a e is failed = λ start from. record {
    device = λ device. let never : Failed ≡ Device = sym is ∙ device in absurd (cc);
    earlier = λ _. ap (λ b. has_failed_here a || b) (keeps start (medium_of a) from) ∙ failed;
  }

  pub refused_cause : (it : Package F g) (e : Error) → permission (failed_in it) (sound_in it) ≡ Err e → IsJustifiedBySectors (allocator_of (mini_of (file_in it))) (allocator_of (mini_of (file_in it))) e
  refused_cause it e is = elim (refused_so (failed_in it) (sound_in it) e is) [
    | inl failed ↦ failed_cause (allocator_of (mini_of (file_in it))) e failed.0 failed.1
    | inr unsound ↦ own_cause (allocator_of (mini_of (file_in it))) (allocator_of (mini_of (file_in it))) e
        (λ device. let never : InvalidData ≡ Device = sym unsound ∙ device in absurd (cc)) (λ failed. let never : InvalidData ≡ Failed = sym unsound ∙ failed in absurd (cc))
  ]

module _ {F : Type 0} {g : Ghosts F} (it : Package F g) (e : Error) (is : permission (failed_in it) (sound_in it) ≡ Err e) where
  pub refused_change : IsChangeError e
  refused_change = elim (refused_so (failed_in it) (sound_in it) e is) [
    | inl failed ↦ subst IsChangeError (sym failed.0) (inl tt)
    | inr unsound ↦ inr (inl (inl (inl unsound)))
  ]

  pub refused_removal : IsRemovalError e
  refused_removal = elim (refused_so (failed_in it) (sound_in it) e is) [
    | inl failed ↦ subst IsRemovalError (sym failed.0) (inl tt)
    | inr unsound ↦ inr (inr (inr unsound))
  ]
