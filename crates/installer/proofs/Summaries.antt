-- What an edit of a summary does to a package.
use Rattle.std.proofs.Common.{◌≡◌, ◌∙◌, ℕ, ap, false, inl, inr, refl, subst, sym, true}
use Rattle.std.specs.Prelude.{Err, IfErr, None, Ok, Option, Result, Some, IsTrue}
use Rattle.cfb_medium.specs.declared.error.Error.{Error}
use Rattle.cfb_medium.specs.declared.medium.ReadMedium.{Ghosts}
use Rattle.msi.proofs.Permitted.{permitted}
use Rattle.msi.proofs.Summed.{holds_summed, one_section_held}
use Rattle.msi.specs.Changing.{failed_in, permission, PackageChanges}
use Rattle.msi.specs.Lending.{summed_up, with_summary}
use Rattle.msi.specs.Opened.{sound_in, summary_in, PackageHasContent}
use Rattle.msi.specs.declared.package.Package.{Package}
use Rattle.msi_props.specs.Held.{SetState}
use Rattle.msi_props.specs.Props.{Property, Props}
use Rattle.msi_stored.specs.Changing.{PackageRule}
use Rattle.msi_summary.specs.Edits.{EditsOrOutOfMemory}
use Rattle.msi_summary.specs.Summary.{Edit, edited, set_arch, set_keywords, set_languages, set_number, set_or_cleared, set_page, set_text, set_time}
use Rattle.installer.proofs.Answering.{memory_own, IsOwn}
use Rattle.installer.proofs.Going.{not_ok}

-- the package gets the summary that an edit makes
abbrev pub setting_summary : Edit → PackageRule
setting_summary change P Q answer = (Q ≡ summed_up (edited change P.summary) P) × (answer ≡ Ok tt)

put_keeps : (n : ℕ) (v : Option Property) (s : Props) → (set_or_cleared n v s).sections ≡ s.sections
put_keeps n None s = refl
put_keeps n (Some v) s = refl

sections_stay : (change : Edit) (s : Props) → (edited change s).sections ≡ s.sections
sections_stay (set_text n value) s = put_keeps n _ s
sections_stay (set_number n value) s = put_keeps n _ s
sections_stay (set_time n value) s = put_keeps n _ s
sections_stay (set_arch value) s = refl
sections_stay (set_languages value) s = refl
sections_stay (set_keywords value) s = refl
sections_stay (set_page p) s = refl

module _ {F : Type 0} {g : Ghosts F} (it : Package F g) (may : permission (failed_in it) (sound_in it) ≡ Ok tt) (change : Edit) where
  sound : IsTrue (sound_in it)
  sound = (permitted (failed_in it) (sound_in it) may).1

  no_fail : failed_in it ≡ true → ⊥
  no_fail is = let never : true ≡ false = sym is ∙ (permitted (failed_in it) (sound_in it) may).0 in absurd (cc)

  no_unsound : sound_in it ≡ false → ⊥
  no_unsound is = let never : true ≡ false = sym (permitted (failed_in it) (sound_in it) may).1 ∙ is in absurd (cc)

  pub summary_changes : (s : SetState) (r : Result (Unit {0}) Error) → EditsOrOutOfMemory change (summary_in it) s r → PackageChanges (setting_summary change) r it (with_summary it s)
  summary_changes s (Ok u) is = record {
    failed = λ failed. absurd (no_fail failed);
    unsound = λ live unsound. absurd (no_unsound unsound);
    done = λ P h.
        let props : s.props ≡ edited change P.summary = ap (λ (x : SetState). x.props) is ∙ ap (edited change) h.memory.summary in
        let one : s.props.sections ≡ 1 = ap (λ (x : SetState). x.props.sections) is ∙ sections_stay change (summary_in it).props ∙ one_section_held it P h sound in
        (summed_up s.props P, (ap (λ x. summed_up x P) props, refl), holds_summed it P h s one);
    refused = tt;
    rests = tt;
    seen = (refl, refl);
  }
  summary_changes s (Err e) is = record {
    failed = λ failed. absurd (no_fail failed);
    unsound = λ live unsound. absurd (no_unsound unsound);
    done = tt;
    refused = λ P h sound. inl (inl (rw is.0 tt));
    rests = inr (record {
      holds = λ P h.
          let one : s.props.sections ≡ 1 = ap (λ (x : SetState). x.props.sections) is.1 ∙ one_section_held it P h sound in
          let same : s.props ≡ P.summary = ap (λ (x : SetState). x.props) is.1 ∙ h.memory.summary in
          subst (λ x. PackageHasContent (with_summary it s) (summed_up x P)) same (holds_summed it P h s one);
    });
    seen = (refl, refl);
  }

-- an edit names neither the device nor a fault before
pub edit_own : (change : Edit) (s t : SetState) (r : Result (Unit {0}) Error) → EditsOrOutOfMemory change s t r → IfErr r IsOwn
edit_own change s t (Ok u) is = tt
edit_own change s t (Err e) is = memory_own e is.0

-- a change that isn't permitted leaves the package
pub refused_changes : {F : Type 0} {g : Ghosts F} (rule : PackageRule) (it : Package F g) (e : Error) → failed_in it ≡ false → permission (failed_in it) (sound_in it) ≡ Err e → PackageChanges rule (Err e) it it
refused_changes rule it e live is = record {
  failed = λ failed. let never : true ≡ false = sym failed ∙ live in absurd (cc);
  unsound = λ _ unsound. (sym is ∙ ap (λ s. permission (failed_in it) s) unsound ∙ ap (λ f. permission f false) live, record { holds = λ P h. h });
  done = tt;
  refused = λ P h sound. let never : Ok tt ≡ Err e = sym (ap (λ s. permission (failed_in it) s) sound ∙ ap (λ f. permission f true) live) ∙ is in absurd (not_ok never);
  rests = inr (record { holds = λ P h. h });
  seen = (refl, refl);
}
