-- What is seen of an allocator by those who own its sectors.
use Rattle.cfb_medium.specs.declared.medium.ReadMedium.{Ghosts}
use Rattle.cfb_chains.specs.Owned.{SectorLayer}
use Rattle.cfb_fat.specs.declared.allocator.Allocator.{Allocator}
use Rattle.cfb_fat.specs.Tables.{bytes_of, fat_of, tables_of}

module _ {F : Type 0} {g : Ghosts F} where
  -- the file's bytes, the FAT, and the sectors of DIFAT and FAT
  unfoldable pub seen_of : Allocator F g → SectorLayer
  seen_of it = record { bytes = bytes_of it; table = fat_of it; tables = tables_of it }
