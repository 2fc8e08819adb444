use Rattle.std.proofs.Common.{◌-◌, vec_len}
use Rattle.cfb_sectors.specs.Held.{bytes_of, count_of, version_of, AreSectorNumbers, IsHonest, OnlyReadsSectors}
use Rattle.cfb_sectors.specs.Sectors.{DifatChain}
use Rattle.cfb_fat.proofs.difat.walk.Given as goal

abbrev pub invariant-loop-at : goal.invariant-loop-at
invariant-loop-at g l = record {
  rests : OnlyReadsSectors {g = g.F.ReadMedium} l.fn.sectors l.sectors;
  there : AreSectorNumbers l.fn.sectors l.found.items;
  chain : IsHonest l.fn.sectors → DifatChain (version_of l.fn.sectors) (bytes_of l.fn.sectors) l.start l.found.items l.at;
}

abbrev pub decreases-loop-at : goal.decreases-loop-at
decreases-loop-at g l = count_of {g = g.F.ReadMedium} l.fn.sectors - vec_len l.found
