use Rattle.std.proofs.Common.{inl, refl}
use Rattle.installer.proofs.Answering.{answers_changes, may_fill}
use Rattle.msi_changes.specs.Said.{delete_condition, delete_name}
use Rattle.msi_spec.specs.Calls.{Deletes}
use Rattle.installer.proofs.session.SessionOver.delete.Goals as goal

pub returns : goal.returns
returns g c =
    let G = g.met.F.ReadMedium in
    answers_changes G.continues_refl G.continues_keeps c.args.self.now _ c.requires refl (λ P Q answer. Deletes P (delete_name c.args.delete.now) (delete_condition c.args.delete.now) Q answer) _ _ c.delete_rows.result refl (λ P Q answer made. inl (answer, made, refl))
    c.delete_rows.ensures.changes c.delete_rows.ensures.invariants c.delete_rows.ensures.cause (may_fill c.delete_rows.result refl) c.answer_of.ensures
