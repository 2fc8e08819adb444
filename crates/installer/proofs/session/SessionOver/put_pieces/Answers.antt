use Rattle.std.proofs.Common.{refl}
use Rattle.installer.proofs.Putting.{put_quietly}
use Rattle.installer.proofs.session.SessionOver.put_pieces.Goals as goal

pub returns-clause-done : goal.returns-clause-done
returns-clause-done g c =
    let G = g.met.F.ReadMedium in
    put_quietly G.continues_refl G.continues_keeps c.args.self.now _ refl g.S.ReadMedium c.args.source.now c.args.name.now c.put_stream_from.result c.put_stream_from.ensures.puts c.put_stream_from.ensures.invariants
