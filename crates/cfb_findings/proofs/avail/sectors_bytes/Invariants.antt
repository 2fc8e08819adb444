use Rattle.std.proofs.Common.{◌≡◌, map}
use Rattle.std.specs.List.{range_with_len}
use Rattle.cfb_findings.specs.Avail.{sector_bytes}
use Rattle.cfb_findings.proofs.avail.sectors_bytes.Given as goal

abbrev pub invariant-loop-sector_id : goal.invariant-loop-sector_id
invariant-loop-sector_id l = l.bytes.items ≡ map (sector_bytes l.fn.version l.file_len) (range_with_len 0 l.sector_id)
