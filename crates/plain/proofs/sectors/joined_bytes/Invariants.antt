use Rattle.std.proofs.Common.{◌≡◌, take}
use Rattle.cfb_sectors.specs.Sectors.{joined}
use Rattle.plain.proofs.sectors.joined_bytes.Given as goal

abbrev pub invariant-loop-n : goal.invariant-loop-n
invariant-loop-n l = l.out.items ≡ joined l.version l.bytes (take l.n-index l.sectors)
