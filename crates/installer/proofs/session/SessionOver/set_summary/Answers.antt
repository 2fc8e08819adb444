use Rattle.std.proofs.Common.{ap, inl, refl, subst, sym}
use Rattle.command_file.specs.RequestsOf.{edit_said}
use Rattle.installer.proofs.Answering.{answers_in_memory, permission_own}
use Rattle.installer.proofs.Summaries.{edit_own, refused_changes, setting_summary, summary_changes}
use Rattle.installer.specs.Sessions.{is_failed, is_sound, package_in}
use Rattle.installer.specs.Step.{told_of}
use Rattle.msi.specs.Opened.{summary_in}
use Rattle.msi_summary.specs.Edits.{EditsOrOutOfMemory}
use Rattle.std.specs.Prelude.{Err}
use Rattle.installer.proofs.session.SessionOver.set_summary.Goals as goal

pub returns-in-Ok : goal.returns-in-Ok
returns-in-Ok g c =
    let G = g.met.F.ReadMedium in
    let change = edit_said c.args.change.now in
    let old = package_in c.args.self.now in
    let edits = subst (λ s. EditsOrOutOfMemory change s c.apply_edit.new.summary c.apply_edit.result) c.in-Ok.ensures.value c.apply_edit.ensures in
    answers_in_memory G.continues_refl G.continues_keeps c.args.self.now _ c.requires refl (setting_summary change) _ _ c.apply_edit.result refl (λ P Q answer made. inl (made.0, ap told_of made.1))
    (summary_changes old c.in-Ok.ensures.answer change c.apply_edit.new.summary c.apply_edit.result edits) refl
    (edit_own change (summary_in old) c.apply_edit.new.summary c.apply_edit.result edits) c.answer_of.ensures

pub returns-in-Err : goal.returns-in-Err
returns-in-Err g c =
    let G = g.met.F.ReadMedium in
    answers_in_memory G.continues_refl G.continues_keeps c.args.self.now _ c.requires refl (setting_summary (edit_said c.args.change.now)) _ _ (Err c.in-Err.error) refl (λ P Q answer made. inl (made.0, ap told_of made.1))
    (refused_changes (setting_summary (edit_said c.args.change.now)) (package_in c.args.self.now) c.in-Err.error c.requires c.in-Err.ensures.answer) refl
    (permission_own (is_failed c.args.self.now) (is_sound c.args.self.now) (Err c.in-Err.error) c.requires (sym c.in-Err.ensures.answer)) refl
