use Rattle.std.proofs.Common.{refl}
use Rattle.cfb.specs.Views.{links_held, mini_of, stream_known}
use Rattle.cfb.proofs.HeldLinks.{held_read}
use Rattle.cfb.proofs.compound_file.CompoundFile.flush.Goals as goal

pub returns-then-self-clause-only_reads : goal.returns-then-self-clause-only_reads
returns-then-self-clause-only_reads g c =
    let it = c.args.self.now in
    let rests = c.flush.ensures.only_reads in
    record { mini = rests; letters = refl; validation = refl; sound = refl; most = refl; held = held_read (mini_of it) c.flush.new.self rests (stream_known it) (links_held it) }
