use Rattle.cfb_chains.proofs.Apart.{stays_apart}
use Rattle.cfb_chains.proofs.laws.longer_chains_stay_apart.Goals as goal

pub returns : goal.returns
returns c = stays_apart
