use Rattle.std.proofs.Common.{◌≡◌, ◌*◌, length, take, replicate}
use Rattle.cfb_medium.specs.Numbers.{number_bytes}
use Rattle.cfb_sectors.proofs.initial.fill_numbers.Given as goal

abbrev pub invariant-loop-i : goal.invariant-loop-i
invariant-loop-i l = record {
  long : length l.bytes ≡ length l.fn.bytes;
  front : take (4 * l.i) l.bytes ≡ number_bytes (replicate l.i l.number);
}
