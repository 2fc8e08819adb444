use Rattle.cfb.proofs.Wants.{listed_cause}
use Rattle.cfb.proofs.compound_file.CompoundFile.read_root_storage.Goals as goal

pub returns-clause-cause : goal.returns-clause-cause
returns-clause-cause g c = listed_cause c.args.self.now c.children_at.result c.children_at.ensures.errors
