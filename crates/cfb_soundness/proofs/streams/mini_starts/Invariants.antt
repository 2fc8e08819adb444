use Rattle.std.proofs.Common.{◌≡◌, ◌+◌, ◌*◌, ◌/◌, ◌%◌, map, take}
use Rattle.std.specs.Prelude.{slice_index}
use Rattle.cfb_medium.specs.Versions.{sector_len}
use Rattle.cfb_sectors.specs.Sectors.{sector_start}
use Rattle.cfb_soundness.proofs.streams.mini_starts.Given as goal

abbrev pub invariant-loop-id : goal.invariant-loop-id
invariant-loop-id g l = l.starts.items ≡ map (λ n. sector_start l.version (slice_index l.stream (64 * n / sector_len l.version)) + 64 * n % sector_len l.version) (take l.id-index l.ids)
