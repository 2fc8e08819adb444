use Rattle.cfb_stream_reads.proofs.serving.read_part.Goals as goal

pub returns-clause-part : goal.returns-clause-part
returns-clause-part g c = λ content has ahead. (c.read_stream.ensures.content c.args.len content has).1 c.requires

pub returns-clause-kept : goal.returns-clause-kept
returns-clause-kept g c = λ content has. (c.read_stream.ensures.content c.args.len content has).0
