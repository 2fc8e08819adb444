use Rattle.cfb.proofs.WholeStreams.{keeps_by}
use Rattle.cfb.proofs.compound_file.CompoundFile.read_bytes.Goals as goal

pub returns-clause-part : goal.returns-clause-part
returns-clause-part g c = λ content has. c.read_bytes.ensures.part content has.lies has.ahead

pub returns-clause-keeps : goal.returns-clause-keeps
returns-clause-keeps g c =
    keeps_by c.args.self.now c.read_bytes.new.mini c.read_bytes.new.ahead c.args.len c.read_bytes.ensures.only_reads c.read_bytes.ensures.most c.read_bytes.ensures.kept c.read_bytes.ensures.ahead
