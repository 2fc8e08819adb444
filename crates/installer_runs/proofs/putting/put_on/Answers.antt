use Rattle.std.proofs.Common.{◌≡◌, ◌∙◌, [], Bool, Some, false, refl, sym, true, subst, List, ℕ}
use Rattle.cfb_tree.specs.CaseTableViews.{case_table_of}
use Rattle.installer.specs.Sessions.{is_sound}
use Rattle.installer_runs.proofs.Copied.{no_mark}
use Rattle.installer_runs.proofs.Put.{never_put, puts_on, puts_survive, unsound_put}
use Rattle.installer_runs.specs.Putting.{IsPut}
use Rattle.msi.specs.Opened.{IsSoundFile}
use Rattle.installer_runs.proofs.putting.put_on.Goals as goal

pub returns-in-Ok-clause-put : goal.returns-in-Ok-clause-put
returns-in-Ok-clause-put g c = λ honest P holds.
    let again = c.in-Ok.ensures.reopens honest holds.bytes P holds.given holds.held in
    puts_on (case_table_of c.args.letters) c.in-Ok.session c.in-Ok.ensures.letters g.S.ReadMedium c.args.source.now c.args.name.now P again.1 (c.in-Ok.ensures.began P again.0) c.args.device c.put_last.result.0 c.put_last.result.1 c.put_last.ensures

pub returns-in-Ok-clause-survives : goal.returns-in-Ok-clause-survives
returns-in-Ok-clause-survives g c = λ honest P holds.
    let again = c.in-Ok.ensures.reopens honest holds.bytes P holds.given holds.held in
    puts_survive (case_table_of c.args.letters) c.in-Ok.session c.in-Ok.ensures.letters g.S.ReadMedium c.args.source.now c.args.name.now P again.1 (c.in-Ok.ensures.began P again.0) c.args.device c.put_last.result.0 c.put_last.result.1 c.put_last.ensures
    c.in-Ok.ensures.survives

pub returns-in-Ok-clause-kept : goal.returns-in-Ok-clause-kept
returns-in-Ok-clause-kept g c = λ honest true_source P holds e refused.
    let again = c.in-Ok.ensures.reopens honest holds.bytes P holds.given holds.held in
    never_put (case_table_of c.args.letters) c.in-Ok.session c.in-Ok.ensures.letters g.S.ReadMedium c.args.source.now c.args.name.now P again.1 (c.in-Ok.ensures.began P again.0) c.args.device c.put_last.result.0 c.put_last.result.1 c.put_last.ensures
    true_source e refused c.in-Ok.ensures.survives

pub returns-in-Ok-clause-unsound : goal.returns-in-Ok-clause-unsound
returns-in-Ok-clause-unsound g c = λ honest bytes given never.
    let opened = c.in-Ok.ensures.opened honest in
    let same : bytes ≡ opened.0 = some_same bytes opened.0 (sym given ∙ opened.1) in
    let by : (b : Bool) → is_sound c.in-Ok.session ≡ b → is_sound c.in-Ok.session ≡ false = λ b. elim b as (λ x. is_sound c.in-Ok.session ≡ x → is_sound c.in-Ok.session ≡ false) [
      | true ↦ λ is. absurd (never (subst (IsSoundFile (case_table_of c.args.letters)) (sym same) (opened.2.sound.0 is)))
      | false ↦ λ is. is
    ] in
    unsound_put (case_table_of c.args.letters) c.in-Ok.session c.in-Ok.ensures.letters g.S.ReadMedium c.args.source.now c.args.name.now c.args.device c.put_last.result.0 c.put_last.result.1 c.put_last.ensures
    (by (is_sound c.in-Ok.session) refl) c.in-Ok.ensures.survives
  where
    some_same : (x y : List ℕ) → Some x ≡ Some y → x ≡ y
    some_same x y h = cc

pub returns-in-Err-clause-survives : goal.returns-in-Err-clause-survives
returns-in-Err-clause-survives g c = λ honest P holds. ([], no_mark (λ m. IsPut (case_table_of c.args.letters) g.S.ReadMedium c.args.source.now c.args.name.now P m.held), c.in-Err.ensures.survives)
