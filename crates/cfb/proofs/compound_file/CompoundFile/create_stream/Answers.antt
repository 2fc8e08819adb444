use Rattle.std.proofs.Common.{rules, refl}
use Rattle.cfb.proofs.Done.{does_so}
use Rattle.cfb.proofs.compound_file.CompoundFile.create_stream.Goals as goal

pub returns-clause-tree_rule : goal.returns-clause-tree_rule
returns-clause-tree_rule g c = does_so _ c.args.self.now _ _ c.create_stream.result refl refl refl refl tt (search rules) (search rules) c.create_stream.ensures.tree_rule
