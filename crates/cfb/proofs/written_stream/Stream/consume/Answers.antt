use Rattle.std.proofs.Common.{refl, rules}
use Rattle.cfb.proofs.Standing.{rests_so}
use Rattle.cfb.proofs.written_stream.Stream.consume.Goals as goal

pub returns-clause-only_reads : goal.returns-clause-only_reads
returns-clause-only_reads g c = rests_so c.args.self.now _ refl refl refl (search rules)
