use Rattle.cfb.proofs.stream.ReadStream.buffer.Goals as goal

pub returns-clause-bytes : goal.returns-clause-bytes
returns-clause-bytes g c = λ content has. c.within.ensures.bytes content has.ahead
