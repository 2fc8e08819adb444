use Rattle.cfb.proofs.Wants.{listed_cause}
use Rattle.cfb.proofs.compound_file.CompoundFile.root_entry.Goals as goal

pub returns-clause-cause : goal.returns-clause-cause
returns-clause-cause g c = listed_cause c.args.self.now c.entry_at.result c.entry_at.ensures.errors
