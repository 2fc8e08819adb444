use Rattle.std.proofs.Common.{inr, refl}
use Rattle.json_parts.proofs.ReadLists.{two_none}
use Rattle.json_parts.proofs.members.two_of.Goals as goal

pub returns-then-list-ne2 : goal.returns-then-list-ne2
returns-then-list-ne2 c = inr (refl, rw c.in_ok-list.ensures (two_none c.in_ok-list.list.now c.if-list-ne2.true))
