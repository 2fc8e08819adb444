use Rattle.std.proofs.Common.{refl}
use Rattle.cfb_stream_reads.proofs.Contents.{content_stays}
use Rattle.cfb.specs.Views.{links_held, mini_of, stream_known}
use Rattle.cfb.proofs.HeldLinks.{held_read}
use Rattle.cfb.proofs.compound_file.CompoundFile.flush_under.Goals as goal

pub returns-clause-keeps : goal.returns-clause-keeps
returns-clause-keeps g c =
    let it = c.args.self.now in
    let rests = c.flush.ensures.only_reads in
    record {
      rests = record { mini = rests; letters = refl; validation = refl; sound = refl; most = refl; held = held_read (mini_of it) c.flush.new.self rests (stream_known it) (links_held it) };
      links = refl;
      held = refl;
      content = λ content has. record { lies = content_stays (mini_of c.args.self.now) c.flush.new.self (links_held c.args.self.now) c.args.len content rests has.lies; ahead = has.ahead };
    }
