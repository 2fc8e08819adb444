use Rattle.std.proofs.Common.{◌≤◌, length}
use Rattle.cfb_fat.specs.Tables.{fat_of}
use Rattle.cfb_findings.proofs.tables.first_uncovered.Given as goal

-- the FAT has an entry for each sector before
abbrev pub invariant-loop-sector_id : goal.invariant-loop-sector_id
invariant-loop-sector_id g l = l.sector_id ≤ length (fat_of l.allocator)
