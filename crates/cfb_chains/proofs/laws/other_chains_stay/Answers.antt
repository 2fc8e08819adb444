use Rattle.cfb_chains.proofs.Staying.{bytes_stay, chain_stays}
use Rattle.cfb_chains.proofs.laws.other_chains_stay.Goals as goal

pub returns-clause-chains : goal.returns-clause-chains
returns-clause-chains c = chain_stays

pub returns-clause-bytes : goal.returns-clause-bytes
returns-clause-bytes c = bytes_stay
