use Rattle.std.proofs.Common.{◌≡◌, map, take, length}
use Rattle.std.specs.Int.{w32, from_le_bytes}
use Rattle.cfb_medium.specs.Numbers.{pieces}
use Rattle.cfb_sectors.proofs.numbers.difat_numbers.Given as goal

abbrev pub invariant-loop-i : goal.invariant-loop-i
invariant-loop-i l = record {
  whole : length l.found ≡ 109;
  front : take l.i l.found ≡ map (from_le_bytes w32) (pieces 4 l.i l.bytes);
}
