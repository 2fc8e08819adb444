use Rattle.std.proofs.Common.{rules, refl}
use Rattle.cfb.proofs.Done.{does_so}
use Rattle.cfb.proofs.Standing.{on_ok}
use Rattle.cfb.proofs.StreamsGivenUp.{given_up_so}
use Rattle.cfb.proofs.compound_file.CompoundFile.remove_stream.Goals as goal

pub returns-clause-tree_rule : goal.returns-clause-tree_rule
returns-clause-tree_rule g c = does_so _ c.args.self.now _ _ c.remove_stream.result refl refl refl refl tt (search rules) (search rules) c.remove_stream.ensures.tree_rule

pub returns-clause-freed : goal.returns-clause-freed
returns-clause-freed g c = on_ok c.remove_stream.result (λ frees tree m. given_up_so c.args.self.now _ c.args.path.now tree m (frees tree m.live)) c.remove_stream.ensures.freed
