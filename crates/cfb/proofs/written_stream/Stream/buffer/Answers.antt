use Rattle.cfb.proofs.Standing.{stands_read}
use Rattle.cfb.proofs.written_stream.Stream.buffer.Goals as goal

pub returns-clause-bytes : goal.returns-clause-bytes
returns-clause-bytes g c = λ path tree content s. c.within.ensures.bytes content (stands_read c.args.self.now path tree content s).ahead
