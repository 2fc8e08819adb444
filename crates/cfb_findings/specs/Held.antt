-- What tells which streams are whole.
use Rattle.std.specs.Prelude.{ℕ, List, take}
use Rattle.cfb_medium.specs.Versions.{sector_len}
use Rattle.cfb_soundness.specs.Uses.{SectorTables}
use Rattle.cfb_sectors.specs.Sectors.{sector_start}
use Rattle.cfb_findings.specs.Avail.{mini_start}
use Rattle.cfb_findings.specs.Minis.{minis_there}
use Rattle.cfb_findings.specs.Links.{AreEnds}
use Rattle.cfb_findings.specs.Rooms.{AreRooms}
use Rattle.cfb_findings.specs.declared.held.Held.{Held}

-- it tells of each chain of the table whether there is one, and how many of its bytes stand in the file
pub record TableHasChains (links : List ℕ) (piece : ℕ) (place : ℕ → ℕ) (file_len : ℕ) (it : Held) : Type 0 where
  pub ends : AreEnds links it.ends.items
  pub rooms : AreRooms links piece place file_len it.rooms.items

-- of the chains of the FAT, and of those of the mini FAT in the mini stream
pub record TellsTables (t : SectorTables) (fat minis : Held) : Type 0 where
  pub of_fat : TableHasChains t.fat (sector_len t.version) (sector_start t.version) t.file_len fat
  pub of_minis : TableHasChains (take (minis_there t.mini_fat t.mini_len) t.mini_fat) 64 (mini_start t.version t.mini_stream) t.file_len minis
