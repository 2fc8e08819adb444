use Rattle.std.proofs.Common.{rules, refl}
use Rattle.cfb.proofs.Done.{does_so}
use Rattle.cfb.proofs.compound_file.CompoundFile.set_fact.Goals as goal

pub returns-clause-tree_rule : goal.returns-clause-tree_rule
returns-clause-tree_rule g c = does_so _ c.args.self.now _ _ c.set_fact.result refl refl refl refl tt (search rules) (search rules) c.set_fact.ensures.tree_rule
