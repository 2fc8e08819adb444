use Rattle.cfb_tree.proofs.laws.written_names_are_read.Goals as goal
use Rattle.cfb_tree.proofs.NamesRead.{units_spell}

pub returns : goal.returns
returns c = units_spell
