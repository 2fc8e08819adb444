use Rattle.cfb_chains.proofs.Staying.{old_chain}
use Rattle.cfb_chains.proofs.laws.freed_sectors_are_in_no_chain.Goals as goal

pub returns : goal.returns
returns c = old_chain
