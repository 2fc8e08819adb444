use Rattle.cfb.proofs.Standing.{if_gone, rests_so, stands_read}
use Rattle.cfb.proofs.written_stream.Stream.read.Goals as goal

pub returns-clause-read : goal.returns-clause-read
returns-clause-read g c = λ path tree content s. c.read_some.ensures.read content (stands_read c.args.self.now path tree content s)

pub returns-clause-only_reads : goal.returns-clause-only_reads
returns-clause-only_reads g c = let same = c.read_some.ensures.same in rests_so c.args.self.now _ same.0 same.1 same.2 c.read_some.ensures.stays

pub returns-clause-errors : goal.returns-clause-errors
returns-clause-errors g c = if_gone c.args.self.now c.read_some.result c.read_some.ensures.errors
