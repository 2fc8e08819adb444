-- Reads one after the other are reads.
use Rattle.std.proofs.Common.{◌∙◌}
use Rattle.cfb_medium.specs.declared.medium.ReadMedium.{Ghosts}
use Rattle.cfb_sectors.specs.OnlyReads.{rests_refl, rests_then}
use Rattle.cfb_fat.specs.declared.allocator.Allocator.{Allocator}
use Rattle.cfb_fat_runs.specs.Tables.{entries_of}
use Rattle.cfb_fat.specs.Tables.{OnlyReadsAllocator}

module _ {F : Type 0} {g : Ghosts F} where
  pub all_rest_refl : (a : Allocator F g) → OnlyReadsAllocator a a
  all_rest_refl a = record { sectors = rests_refl a.sectors; fat = λ i. entries_of a.fat; fat_sectors = λ i. a.fat_sectors.items; difat_sectors = λ i. a.difat_sectors.items; orderly = λ i. a.is_orderly }

  pub all_rest_then : (a b c : Allocator F g) → OnlyReadsAllocator a b → OnlyReadsAllocator b c → OnlyReadsAllocator a c
  all_rest_then a b c h k = record {
    sectors = rests_then a.sectors b.sectors c.sectors h.sectors k.sectors;
    fat = k.fat ∙ h.fat;
    fat_sectors = k.fat_sectors ∙ h.fat_sectors;
    difat_sectors = k.difat_sectors ∙ h.difat_sectors;
    orderly = k.orderly ∙ h.orderly;
  }
