use Rattle.cfb_copying.proofs.Made.{made_more}
use Rattle.cfb_copying.proofs.laws.files_are_made_by_chains.Goals as goal

pub returns : goal.returns
returns g c = made_more
