use Rattle.std.proofs.Common.{◌++◌}
use Rattle.cfb_fat.specs.Tables.{fat_of}
use Rattle.cfb_findings.specs.Findings.{is_unmarked, unmarked}
use Rattle.cfb_findings.proofs.Found.{filter_more}
use Rattle.cfb_findings.proofs.tables.note_unmarked.Goals as goal

pub loop-sector_id-preserved : goal.loop-sector_id-preserved
loop-sector_id-preserved g c =
    filter_more (is_unmarked (fat_of c.args.allocator.now)) c.args.sector_ids.now c.loop-sector_id.found.items c.note.new.found.items
    (c.args.found.now.items ++ unmarked (fat_of c.args.allocator.now) c.args.sector_ids.now)
    c.loop-sector_id.sector_id-index c.loop-sector_id-test.true c.in_ok-note.ensures c.loop-sector_id.invariant
