use Rattle.std.proofs.Common.{inl, refl}
use Rattle.installer.proofs.Answering.{answers_changes, removal_fits}
use Rattle.msi_spec.specs.Streams.{stream_removed}
use Rattle.msi_streams.specs.Writing.{AppliesPackageRule}
use Rattle.msi.specs.Changing.{IsRemovalError}
use Rattle.std.proofs.lemmas.Result.{IfErr-weaker}
use Rattle.installer.proofs.Streams.{becomes}
use Rattle.installer.specs.Sessions.{session_case_table}
use Rattle.installer.proofs.session.SessionOver.remove_stream.Goals as goal

pub returns : goal.returns
returns g c =
    let G = g.met.F.ReadMedium in
    answers_changes G.continues_refl G.continues_keeps c.args.self.now _ c.requires refl (AppliesPackageRule (λ P. stream_removed (session_case_table c.args.self.now) P c.args.name.now)) _ _ c.remove_stream.result refl (λ P Q answer made. inl (becomes (stream_removed (session_case_table c.args.self.now) P c.args.name.now) P Q answer made))
    c.remove_stream.ensures.changes c.remove_stream.ensures.invariants c.remove_stream.ensures.cause (IfErr-weaker c.remove_stream.result IsRemovalError _ (λ e kind full. absurd (removal_fits e kind full)) c.remove_stream.ensures.errors) c.answer_of.ensures
