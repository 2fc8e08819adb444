use Rattle.cfb_chains.proofs.LongerTables.{old_chain}
use Rattle.cfb_chains.proofs.laws.untouched_chains_are_old.Goals as goal

pub returns : goal.returns
returns c = old_chain
