use Rattle.std.proofs.Common.{◌≡◌, ◌≤◌, length, take}
use Rattle.cfb_fat.specs.Tables.{fat_of}
use Rattle.cfb_findings.proofs.sharing.fat_entries.Given as goal

abbrev pub invariant-loop-sector_id : goal.invariant-loop-sector_id
invariant-loop-sector_id g l = record {
  copied : l.entries.items ≡ take l.sector_id (fat_of {g = g.F.ReadMedium} l.allocator);
  there : l.sector_id ≤ length (fat_of {g = g.F.ReadMedium} l.allocator);
}
