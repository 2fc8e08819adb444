use Rattle.std.proofs.Common.{◌≡◌, ◌++◌}
use Rattle.cfb_sectors.specs.Copies.{copies, unused_entry}
use Rattle.cfb_creating.proofs.creating.push_unused.Given as goal

abbrev pub invariant-loop-i : goal.invariant-loop-i
invariant-loop-i l = l.out.items ≡ l.fn.out.items ++ copies l._i unused_entry
