use Rattle.cfb_medium.specs.Times.{units_of}
use Rattle.cfb.proofs.Done.{touches}
use Rattle.cfb.proofs.compound_file.CompoundFile.touch.Goals as goal

pub returns-clause-tree_rule : goal.returns-clause-tree_rule
returns-clause-tree_rule g c = touches _ c.args.self.now c.set_fact.new.self (units_of c.args.moment) c.set_fact.result c.set_fact.ensures.tree_rule
