use Rattle.std.proofs.Common.{◌≡◌, false, inr, subst, sym, true}
use Rattle.std.proofs.lemmas.Result.{IfErr-weaker}
use Rattle.cfb.specs.Views.{file_case_table}
use Rattle.installer_runs.proofs.Copied.{rested_survives, survives_none}
use Rattle.installer_runs.proofs.Moved.{moved_on, own_cause, unmoved}
use Rattle.installer_runs.specs.Moving.{AreBytesRefused, IsMoveRefusal}
use Rattle.msi.specs.Changing.{failed_in}
use Rattle.msi.specs.Committing.{BytesKeepPackage}
use Rattle.msi.specs.Opened.{file_in}
use Rattle.installer_runs.proofs.moving.move_on.Goals as goal

pub returns-in-Ok-clause-copied : goal.returns-in-Ok-clause-copied
returns-in-Ok-clause-copied g c = λ honest.
    moved_on g.D.Device c.args.source c.args.device c.bytes_on.result.0 c.deref.result.now c.bytes_on.result.1 (c.bytes_on.ensures.published honest)
    (λ P held sound. subst (λ b. BytesKeepPackage (file_case_table (file_in c.args.source)) b P) (sym c.deref.ensures.value) (c.in-Ok.ensures.keeps P held sound))

pub returns-in-Ok-clause-survives : goal.returns-in-Ok-clause-survives
returns-in-Ok-clause-survives g c = λ honest P held sound.
    c.bytes_on.ensures.survives honest (file_case_table (file_in c.args.source)) P
    (subst (λ b. BytesKeepPackage (file_case_table (file_in c.args.source)) b P) (sym c.deref.ensures.value) (c.in-Ok.ensures.keeps P held sound))

pub returns-in-Ok-clause-kept : goal.returns-in-Ok-clause-kept
returns-in-Ok-clause-kept g c = λ honest other. c.bytes_on.ensures.kept honest other (file_case_table (file_in c.args.source))

pub returns-in-Ok-clause-refused_only_if : goal.returns-in-Ok-clause-refused_only_if
returns-in-Ok-clause-refused_only_if g c = λ honest P held.
    IfErr-weaker c.bytes_on.result.1 (AreBytesRefused g.D.Device c.args.device c.bytes_on.result.0) (IsMoveRefusal c.args.source g.D.Device c.args.device c.bytes_on.result.0)
    (unmoved g.D.Device c.args.source c.args.device c.bytes_on.result.0) (c.bytes_on.ensures.refused_only_if honest)

pub returns-in-Ok-clause-unsound : goal.returns-in-Ok-clause-unsound
returns-in-Ok-clause-unsound g c = λ unsound. (let never : true ≡ false = c.in-Ok.ensures.unsound unsound in absurd (cc))

pub returns-in-Ok-clause-left : goal.returns-in-Ok-clause-left
returns-in-Ok-clause-left g c = λ honest unsound. (let never : true ≡ false = c.in-Ok.ensures.unsound unsound in absurd (cc))

pub returns-in-Err-clause-survives : goal.returns-in-Err-clause-survives
returns-in-Err-clause-survives g c = λ honest.
    let d = g.met.D.Device in
    survives_none c.args.source g.D.Device c.args.device c.args.device
    (rested_survives g.D.Device (file_case_table (file_in c.args.source)) d.counts_now d.rests_keeps d.rests_leaves c.args.device c.args.device (d.rests_refl _))

pub returns-in-Err-clause-kept : goal.returns-in-Err-clause-kept
returns-in-Err-clause-kept g c = λ honest other.
    let d = g.met.D.Device in
    rested_survives g.D.Device (file_case_table (file_in c.args.source)) d.counts_now d.rests_keeps d.rests_leaves c.args.device c.args.device (d.rests_refl _)

pub returns-in-Err-clause-left : goal.returns-in-Err-clause-left
returns-in-Err-clause-left g c = λ honest unsound.
    let d = g.met.D.Device in
    rested_survives g.D.Device (file_case_table (file_in c.args.source)) d.counts_now d.rests_keeps d.rests_leaves c.args.device c.args.device (d.rests_refl _)

pub returns-in-Err-clause-refused_only_if : goal.returns-in-Err-clause-refused_only_if
returns-in-Err-clause-refused_only_if g c = λ honest P held. record {
  kind = inr (inr (c.in-Err.ensures.refused_only_if P held));
  cause = own_cause g.D.Device c.args.device c.args.device (failed_in c.args.source) c.in-Err.error c.in-Err.ensures.cause.0 c.in-Err.ensures.cause.1;
}
