use Rattle.std.proofs.Common.{◌≡◌, ℕ, ◌-◌, ◌<◌, length}
use Rattle.std.specs.Prelude.{slice_index}
use Rattle.cfb_sectors.specs.Sectors.{free}
use Rattle.cfb_chains.specs.Changes.{IsNotIn}
use Rattle.cfb_fat.specs.Tables.{difat_sectors_of, fat_of, fat_sectors_of}
use Rattle.cfb_fat.proofs.allocator.Allocator.find_free.Given as goal

abbrev pub invariant-loop-index : goal.invariant-loop-index
invariant-loop-index g l = (k : ℕ) → k < l.from → slice_index (fat_of {g = g.F.ReadMedium} l.self) k ≡ free → IsNotIn (difat_sectors_of {g = g.F.ReadMedium} l.self) k → IsNotIn (fat_sectors_of {g = g.F.ReadMedium} l.self) k → ⊥

abbrev pub decreases-loop-index : goal.decreases-loop-index
decreases-loop-index g l = length (fat_of {g = g.F.ReadMedium} l.self) - l.from
