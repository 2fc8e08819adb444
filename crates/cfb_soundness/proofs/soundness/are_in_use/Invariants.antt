use Rattle.std.proofs.Common.{drop}
use Rattle.std.specs.Prelude.{◌↔◌}
use Rattle.cfb_fat.specs.Tables.{fat_of}
use Rattle.cfb_soundness.specs.Uses.{AreInUse}
use Rattle.cfb_soundness.proofs.soundness.are_in_use.Given as goal

abbrev pub invariant-loop-sector_id : goal.invariant-loop-sector_id
invariant-loop-sector_id g l = AreInUse (fat_of l.allocator) l.sector_ids ↔ AreInUse (fat_of l.allocator) (drop l.sector_id-index l.sector_ids)
