use Rattle.std.proofs.Common.{◌≡◌, ◌++◌, take}
use Rattle.cfb_medium.specs.Numbers.{number_bytes}
use Rattle.cfb_tree.proofs.entry.push_u32s.Given as goal

abbrev pub invariant-loop-number : goal.invariant-loop-number
invariant-loop-number l = l.out.items ≡ l.fn.out.items ++ number_bytes (take l.number-index l.numbers)
