use Rattle.std.proofs.Common.{◌≡◌, ◌++◌, replicate}
use Rattle.cfb_medium.specs.Numbers.{number_bytes}
use Rattle.cfb_creating.proofs.creating.push_numbers.Given as goal

abbrev pub invariant-loop-i : goal.invariant-loop-i
invariant-loop-i l = l.out.items ≡ l.fn.out.items ++ number_bytes (replicate l._i l.number)
