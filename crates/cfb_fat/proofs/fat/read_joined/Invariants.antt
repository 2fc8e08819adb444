use Rattle.std.proofs.Common.{◌≡◌, ◌*◌, length, take}
use Rattle.cfb_medium.specs.Versions.{sector_len}
use Rattle.cfb_sectors.specs.Held.{bytes_of, version_of, AreSectorNumbers, IsHonest, OnlyReadsSectors}
use Rattle.cfb_sectors.specs.Sectors.{joined}
use Rattle.cfb_fat.proofs.fat.read_joined.Given as goal

abbrev pub invariant-loop-sector_id : goal.invariant-loop-sector_id
invariant-loop-sector_id g l = record {
  long : length l.sector ≡ 4096;
  size : length l.all.items ≡ l.sector_id-index * sector_len (version_of l.fn.sectors);
  rests : OnlyReadsSectors {g = g.F.ReadMedium} l.fn.sectors l.sectors;
  there : AreSectorNumbers l.fn.sectors (take l.sector_id-index l.sector_ids);
  read : IsHonest l.fn.sectors → l.all.items ≡ joined (version_of l.fn.sectors) (bytes_of l.fn.sectors) (take l.sector_id-index l.sector_ids);
}
