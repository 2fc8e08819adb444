use Rattle.std.proofs.Common.{◌≡◌, ◌≤◌, length, take}
use Rattle.cfb_sectors.specs.Held.{bytes_of, version_of, IsHonest, OnlyReadsSectors}
use Rattle.cfb_sectors.specs.Sectors.{difat}
use Rattle.cfb_fat.proofs.difat.read_entries.Given as goal

abbrev pub invariant-loop-sector_id : goal.invariant-loop-sector_id
invariant-loop-sector_id g l = record {
  rests : OnlyReadsSectors {g = g.F.ReadMedium} l.fn.sectors l.sectors;
  read : IsHonest l.fn.sectors → 512 ≤ length (bytes_of l.fn.sectors) → l.found.items ≡ difat (version_of l.fn.sectors) (bytes_of l.fn.sectors) (take l.sector_id-index l.difat_sectors);
}
