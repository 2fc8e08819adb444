use Rattle.cfb_mini.proofs.Parts.{parts_are}
use Rattle.cfb_mini.proofs.laws.mini_sectors_are_parts.Goals as goal

pub returns : goal.returns
returns c = parts_are
