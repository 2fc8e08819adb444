use Rattle.std.proofs.Common.{◌≡◌, ℕ, ◌<◌, false}
use Rattle.std.specs.Prelude.{slice_index}
use Rattle.cfb_sectors.specs.Held.{has_failed_here, IsHonest}
use Rattle.cfb_chains.specs.Changes.{AreDistinct}
use Rattle.cfb_fat.specs.Changing.{fat_here, WritesFatEntries}
use Rattle.cfb_fat.proofs.changes.write_entries.Given as goal

abbrev pub invariant-loop-sector_id : goal.invariant-loop-sector_id
invariant-loop-sector_id g l = record {
  writes : WritesFatEntries {g = g.F.ReadMedium} l.sector_ids l.fat_sectors l.fn.sectors l.sectors;
  live : has_failed_here {g = g.F.ReadMedium} l.sectors ≡ false;
  entries : IsHonest {g = g.F.ReadMedium} l.fn.sectors → AreDistinct l.fat_sectors → (k : ℕ) → k < l.sector_id-index → slice_index (fat_here {g = g.F.ReadMedium} l.fat_sectors l.sectors) (slice_index l.sector_ids k) ≡ l.entry;
}
