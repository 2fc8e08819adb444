use Rattle.std.proofs.Common.{inl, refl}
use Rattle.installer.proofs.Answering.{answers_changes, may_fill}
use Rattle.msi_spec.specs.Calls.{Drops}
use Rattle.installer.proofs.session.SessionOver.drop_table.Goals as goal

pub returns : goal.returns
returns g c =
    let G = g.met.F.ReadMedium in
    answers_changes G.continues_refl G.continues_keeps c.args.self.now _ c.requires refl (λ P Q answer. Drops P c.args.name.now Q answer) _ _ c.drop_table.result refl (λ P Q answer made. inl (answer, made, refl))
    c.drop_table.ensures.changes c.drop_table.ensures.invariants c.drop_table.ensures.cause (may_fill c.drop_table.result refl) c.answer_of.ensures
