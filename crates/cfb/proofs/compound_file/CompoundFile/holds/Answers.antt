use Rattle.cfb.specs.Views.{links_held, mini_of, stream_known}
use Rattle.cfb.proofs.HeldLinks.{held_known}
use Rattle.cfb.proofs.compound_file.CompoundFile.holds.Goals as goal

pub returns-then-stream_id-id-clause-links : goal.returns-then-stream_id-id-clause-links
returns-then-stream_id-id-clause-links g c = λ fits are.
    let it = c.args.self.now in
    let found = c.in-Long-Some in
    held_known (mini_of it) (stream_known it) (links_held it) found.links found.stream_id c.args.id found.is-1 found.is-0 c.if-stream_id-id.true are
