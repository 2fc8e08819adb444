use Rattle.std.proofs.Common.{refl}
use Rattle.cfb.proofs.Standing.{if_gone, rests_so}
use Rattle.cfb.proofs.written_stream.Stream.fill.Goals as goal

pub returns-clause-only_reads : goal.returns-clause-only_reads
returns-clause-only_reads g c = rests_so c.args.self.now _ refl refl refl c.read_more.ensures.keeps

pub returns-clause-errors : goal.returns-clause-errors
returns-clause-errors g c = if_gone c.args.self.now c.read_more.result c.read_more.ensures.errors
