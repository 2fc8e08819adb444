use Rattle.std.proofs.Common.{refl}
use Rattle.installer.proofs.Answering.{answers_writes}
use Rattle.installer.proofs.session.SessionOver.write_out.Goals as goal

pub returns-clause-quiet : goal.returns-clause-quiet
returns-clause-quiet g c =
    let G = g.met.F.ReadMedium in
    answers_writes G.continues_refl G.continues_keeps c.args.self.now _ c.requires refl _ c.flush.result c.flush.ensures.writes c.flush.ensures.invariants c.flush.ensures.cause refl
