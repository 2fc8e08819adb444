use Rattle.std.proofs.Common.{◌≡◌, ◌*◌, length, take}
use Rattle.cfb_sectors.specs.Copies.{copies}
use Rattle.cfb_sectors.proofs.initial.fill_entries.Given as goal

abbrev pub invariant-loop-i : goal.invariant-loop-i
invariant-loop-i l = record {
  long : length l.bytes ≡ length l.fn.bytes;
  front : take (128 * l.i) l.bytes ≡ copies l.i l.entry;
}
