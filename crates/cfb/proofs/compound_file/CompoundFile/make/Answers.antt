use Rattle.std.proofs.Common.{rules, refl}
use Rattle.cfb.proofs.Done.{does_so}
use Rattle.cfb.proofs.compound_file.CompoundFile.make.Goals as goal

pub returns-clause-tree_rule : goal.returns-clause-tree_rule
returns-clause-tree_rule g c = does_so _ c.args.self.now _ _ c.make_object.result refl refl refl refl tt (search rules) (search rules) c.make_object.ensures.tree_rule
