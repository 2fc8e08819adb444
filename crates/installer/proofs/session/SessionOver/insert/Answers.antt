use Rattle.std.proofs.Common.{inl, refl}
use Rattle.installer.proofs.Answering.{answers_changes, may_fill}
use Rattle.msi_changes.specs.Said.{insert_name, insert_rows}
use Rattle.msi_spec.specs.Calls.{Inserts}
use Rattle.installer.proofs.session.SessionOver.insert.Goals as goal

pub returns : goal.returns
returns g c =
    let G = g.met.F.ReadMedium in
    answers_changes G.continues_refl G.continues_keeps c.args.self.now _ c.requires refl (λ P Q answer. Inserts P (insert_name c.args.insert.now) (insert_rows c.args.insert.now) Q answer) _ _ c.insert_rows.result refl (λ P Q answer made. inl (answer, made, refl))
    c.insert_rows.ensures.changes c.insert_rows.ensures.invariants c.insert_rows.ensures.cause (may_fill c.insert_rows.result refl) c.answer_of.ensures
