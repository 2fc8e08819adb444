use Rattle.std.proofs.Common.{◌≡◌, map, take}
use Rattle.cfb_sectors.specs.Sectors.{sector_start}
use Rattle.cfb_soundness.proofs.streams.sector_starts.Given as goal

abbrev pub invariant-loop-id : goal.invariant-loop-id
invariant-loop-id l = l.starts.items ≡ map (sector_start l.version) (take l.id-index l.ids)
