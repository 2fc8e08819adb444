use Rattle.std.proofs.Common.{inl, refl}
use Rattle.installer.proofs.Answering.{answers_changes, may_fill}
use Rattle.msi_changes.specs.Said.{update_condition, update_name, update_sets}
use Rattle.msi_spec.specs.Calls.{Updates}
use Rattle.installer.proofs.session.SessionOver.update.Goals as goal

pub returns : goal.returns
returns g c =
    let G = g.met.F.ReadMedium in
    answers_changes G.continues_refl G.continues_keeps c.args.self.now _ c.requires refl (λ P Q answer. Updates P (update_name c.args.update.now) (update_sets c.args.update.now) (update_condition c.args.update.now) Q answer) _ _ c.update_rows.result refl (λ P Q answer made. inl (answer, made, refl))
    c.update_rows.ensures.changes c.update_rows.ensures.invariants c.update_rows.ensures.cause (may_fill c.update_rows.result refl) c.answer_of.ensures
