use Rattle.std.specs.Prelude.{length}
use Rattle.cfb_sectors.specs.Sectors.{sectors_in}
use Rattle.cfb_opening.proofs.CutChains.{cut_in_file, cut_of_chain}
use Rattle.cfb_opening.proofs.laws.chains_in_memory_are_in_the_file.Goals as goal
use Rattle.cfb_fat.proofs.CutChains.{chain_of_cut}

pub returns : goal.returns
returns c = λ version bytes table start ids. (
  λ cut. (chain_of_cut (sectors_in version (length bytes)) table start ids cut, cut_in_file version bytes table start ids cut),
  λ both. cut_of_chain version bytes table start ids both.1 both.0,
)
