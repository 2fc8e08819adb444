use Rattle.std.proofs.Common.{rules}
use Rattle.cfb_findings.specs.Avail.{sector_bytes}
use Rattle.cfb_findings.proofs.Rooming.{mapped_more, sector_told}
use Rattle.cfb_findings.proofs.avail.sectors_bytes.Goals as goal

pub loop-sector_id-preserved : goal.loop-sector_id-preserved
loop-sector_id-preserved c =
    mapped_more (sector_bytes c.args.version c.args.file_len) c.loop-sector_id.bytes.items c.push.new.self.items c.loop-sector_id.sector_id c.bytes_from.result c.loop-sector_id.invariant
    (sector_told c.args.version c.args.file_len c.loop-sector_id.sector_id c.bytes_from.result _ c.bytes_from.ensures (search rules)) c.in_ok-push.ensures.items
