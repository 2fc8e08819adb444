use Rattle.std.proofs.Common.{inl, refl}
use Rattle.installer.proofs.Answering.{answers_changes, removal_fits}
use Rattle.std.specs.Prelude.{Ok}
use Rattle.msi_spec.specs.Streams.{unsigned}
use Rattle.msi_streams.specs.Writing.{AppliesPackageRule}
use Rattle.msi.specs.Changing.{IsRemovalError}
use Rattle.std.proofs.lemmas.Result.{IfErr-weaker}
use Rattle.installer.proofs.Streams.{becomes}
use Rattle.installer.specs.Sessions.{session_case_table}
use Rattle.installer.proofs.session.SessionOver.remove_signature.Goals as goal

pub returns : goal.returns
returns g c =
    let G = g.met.F.ReadMedium in
    answers_changes G.continues_refl G.continues_keeps c.args.self.now _ c.requires refl (AppliesPackageRule (λ P. Ok (unsigned (session_case_table c.args.self.now) P))) _ _ c.remove_digital_signature.result refl (λ P Q answer made. inl (becomes (Ok (unsigned (session_case_table c.args.self.now) P)) P Q answer made))
    c.remove_digital_signature.ensures.changes c.remove_digital_signature.ensures.invariants c.remove_digital_signature.ensures.cause (IfErr-weaker c.remove_digital_signature.result IsRemovalError _ (λ e kind full. absurd (removal_fits e kind full)) c.remove_digital_signature.ensures.errors) c.answer_of.ensures
