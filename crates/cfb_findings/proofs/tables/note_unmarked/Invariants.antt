use Rattle.std.proofs.Common.{◌≡◌, ◌++◌, drop}
use Rattle.cfb_fat.specs.Tables.{fat_of}
use Rattle.cfb_findings.specs.Findings.{unmarked}
use Rattle.cfb_findings.proofs.tables.note_unmarked.Given as goal

-- those that were found, and those to come
abbrev pub invariant-loop-sector_id : goal.invariant-loop-sector_id
invariant-loop-sector_id g l = l.found.items ++ unmarked (fat_of l.allocator) (drop l.sector_id-index l.sector_ids) ≡ l.initial.found.items ++ unmarked (fat_of l.allocator) l.sector_ids
