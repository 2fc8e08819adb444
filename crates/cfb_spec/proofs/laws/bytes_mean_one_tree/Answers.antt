use Rattle.cfb_spec.proofs.laws.bytes_mean_one_tree.Goals as goal
use Rattle.cfb_spec.proofs.OneTree.{tree_unique}

pub returns : goal.returns
returns c = tree_unique
