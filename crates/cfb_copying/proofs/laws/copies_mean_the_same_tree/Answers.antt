use Rattle.cfb_copying.proofs.CopiedMeans.{copy_held}
use Rattle.cfb_copying.proofs.CopiedTight.{copy_tight}
use Rattle.cfb_copying.proofs.laws.copies_mean_the_same_tree.Goals as goal

pub returns-clause-held : goal.returns-clause-held
returns-clause-held c = copy_held

pub returns-clause-tight : goal.returns-clause-tight
returns-clause-tight c = copy_tight
