use Rattle.std.proofs.Common.{◌≡◌, map}
use Rattle.std.specs.Int.{w32, from_le_bytes}
use Rattle.cfb_medium.specs.Numbers.{pieces}
use Rattle.cfb_sectors.proofs.numbers.numbers_in.Given as goal

abbrev pub invariant-loop-i : goal.invariant-loop-i
invariant-loop-i l = l.found.items ≡ map (from_le_bytes w32) (pieces 4 l.i l.bytes)
