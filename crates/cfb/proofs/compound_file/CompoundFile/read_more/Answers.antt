use Rattle.std.proofs.Common.{inl, inr, refl}
use Rattle.cfb.specs.Views.{links_held, mini_of, stream_known}
use Rattle.cfb.proofs.HeldLinks.{held_read}
use Rattle.cfb.proofs.StreamsFound.{for_error}
use Rattle.cfb.proofs.compound_file.CompoundFile.read_more.Goals as goal

pub returns-clause-errors : goal.returns-clause-errors
returns-clause-errors g c = for_error _ _ c.read_ahead.result (λ e why. elim why [ inl fault ↦ inl fault | inr lost ↦ inr (lost.0, λ content has. lost.1 content has.lies) ]) c.read_ahead.ensures.errors

pub returns-clause-keeps : goal.returns-clause-keeps
returns-clause-keeps g c = record {
  rests = record { mini = c.read_ahead.ensures.only_reads; letters = refl; validation = refl; sound = refl; most = c.read_ahead.ensures.most; held = held_read (mini_of c.args.self.now) c.read_ahead.new.mini c.read_ahead.ensures.only_reads (stream_known c.args.self.now) (links_held c.args.self.now) };
  links = refl;
  held = refl;
  content = λ content has. record {
    lies = c.read_ahead.ensures.kept content has.lies;
    ahead = c.read_ahead.ensures.content content has.lies has.ahead;
  };
}
