use Rattle.cfb.proofs.Wants.{listed_cause}
use Rattle.cfb.proofs.compound_file.CompoundFile.walk.Goals as goal

pub returns-clause-cause : goal.returns-clause-cause
returns-clause-cause g c = listed_cause c.args.self.now c.walk_at.result c.walk_at.ensures.errors
