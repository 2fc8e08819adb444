use Rattle.std.proofs.Common.{arith}
use Rattle.cfb_tree.specs.declared.kinds.ObjType.TheVariants.{Stream}
use Rattle.cfb_entries.proofs.entry.is_stream.Goals as goal

pub returns-in-None : goal.returns-in-None
returns-in-None c = let no = c.in-None.ensures Stream in grind (arith, no)
