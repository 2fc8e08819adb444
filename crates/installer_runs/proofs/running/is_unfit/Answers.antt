use Rattle.std.proofs.Common.{◌∙◌, sym}
use Rattle.installer_runs.proofs.Fitting.{keeps_is, lets_is, lets_other}
use Rattle.installer_runs.proofs.running.is_unfit.Goals.{then-has_failed-via-then-has_failed, then-has_failed-via-else-has_failed+then-not-is_sound}
use Rattle.installer_runs.proofs.running.is_unfit.Goals as goal

pub returns-clause-keeps : goal.returns-clause-keeps
returns-clause-keeps g c =
    keeps_is c.args.session.now c.texts_fit.result (sym c.has_failed.ensures ∙ c.if-has_failed.false) (sym c.is_sound.ensures ∙ c.if-not-is_sound.false) c.texts_fit.ensures

pub returns-clause-passes : goal.returns-clause-passes
returns-clause-passes g c = lets_is c.args.session.now c.texts_fit.result c.texts_fit.ensures

pub returns-then-has_failed-clause-passes : goal.returns-then-has_failed-clause-passes
returns-then-has_failed-clause-passes g c = λ _. lets_other c.args.session.now (λ live sound. elim c.then-has_failed.branch [
  | then-has_failed-via-then-has_failed w ↦ absurd (let runs = live in let failed = sym c.has_failed.ensures ∙ w.if-has_failed.true in cc)
  | then-has_failed-via-else-has_failed+then-not-is_sound w ↦ absurd (let judged = sound in let unsound = sym w.is_sound.ensures ∙ w.if-not-is_sound.true in cc)
])
