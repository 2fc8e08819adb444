-- Whether a package may be changed, and what a call that isn't permitted leaves.
use Rattle.std.proofs.Common.{◌≡◌, ◌∙◌, Bool, ap, false, inl, inr, refl, subst, sym, true}
use Rattle.std.specs.Prelude.{Err, Ok}
use Rattle.cfb_tree_edits.specs.LiveTreeRules.{IsFaultOrFull}
use Rattle.cfb_medium.specs.declared.error.Error.{Error}
use Rattle.cfb_medium.specs.declared.error.Error.TheVariants.{Failed, InvalidData}
use Rattle.cfb_medium.specs.declared.medium.ReadMedium.{Ghosts}
use Rattle.msi_stored.specs.Changing.{PackageRule}
use Rattle.msi.specs.Changing.{PackageChanges, KeepsHeld, failed_in, permission}
use Rattle.msi.specs.Opened.{sound_in}
use Rattle.msi.specs.declared.package.Package.{Package}

pub permitted : (failed sound : Bool) → permission failed sound ≡ Ok tt → (failed ≡ false) × (sound ≡ true)
permitted true sound is = absurd (cc)
permitted false false is = absurd (cc)
permitted false true is = (refl, refl)

pub not_permitted : {F : Type 0} {g : Ghosts F} (rule : PackageRule) (it : Package F g) (e : Error) → permission (failed_in it) (sound_in it) ≡ Err e → PackageChanges rule (Err e) it it
not_permitted {F} {g} rule it e is = by (failed_in it) refl (sound_in it) refl is
  where
    keeps : KeepsHeld it it
    keeps = record { holds = λ P h. h }

    by : (f : Bool) → failed_in it ≡ f → (s : Bool) → sound_in it ≡ s → permission f s ≡ Err e → PackageChanges rule (Err e) it it
    by true failed s sound is =
        let same : e ≡ Failed = cc in
        record {
          failed = λ yes. ap (λ x. Err x) same;
          unsound = λ no. let never : true ≡ false = sym failed ∙ no in absurd (cc);
          done = tt;
          refused = λ P h sound. inl (subst IsFaultOrFull (sym same) (inl tt));
          rests = inr keeps;
          seen = (refl, refl);
        }
    by false failed true sound is = absurd (cc)
    by false failed false sound is =
        let same : e ≡ InvalidData = cc in
        record {
          failed = λ yes. let never : true ≡ false = sym yes ∙ failed in absurd (cc);
          unsound = λ no wrong. (ap (λ x. Err x) same, keeps);
          done = tt;
          refused = λ P h yes. let never : true ≡ false = sym yes ∙ sound in absurd (cc);
          rests = inr keeps;
          seen = (refl, refl);
        }
