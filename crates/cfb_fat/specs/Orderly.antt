-- When tables can be changed.
use Rattle.std.specs.Prelude.{◌≡◌, ℕ, ◌+◌, ◌-◌, ◌*◌, ◌/◌, ◌<◌, ◌≤◌, ◌⊎◌, List, ◌++◌, length, slice_index}
use Rattle.cfb_medium.specs.declared.version.Version.{Version}
use Rattle.cfb_medium.specs.Versions.{sector_len}
use Rattle.cfb_chains.specs.Changes.{AreDistinct}

-- each is below this
abbrev pub AreBelow : ℕ → List ℕ → Type 0
AreBelow limit xs = (k : ℕ) → k < length xs → slice_index xs k < limit

-- so many sectors the DIFAT can name: 109 in the header, and as many in each of its sectors as this has numbers but one
-- ([MS-CFB] 2.5)
abbrev pub named_at_most : Version → ℕ → ℕ
named_at_most version difat_count = 109 + difat_count * (sector_len version / 4 - 1)

-- the tables of a file of so many sectors can be changed: no sector holds two parts of them, the DIFAT's are there and can
-- name as many as the FAT has, and the FAT has an entry for each sector, of which there is one
pub record AreTablesConsistent (version : Version) (count : ℕ) (fat fat_sectors difat_sectors : List ℕ) : Type 0 where
  pub once : AreDistinct (difat_sectors ++ fat_sectors)
  pub covered : length fat ≡ count
  pub some : 0 < count
  pub there : AreBelow count difat_sectors
  pub named : length fat_sectors ≤ named_at_most version (length difat_sectors)

-- THE TABLES ARE LEAN: of so many sectors at most `content` are others than theirs, and they need theirs. A FAT of fewer sectors,
-- named by any DIFAT, would have no entry left for a sector more, and a DIFAT of fewer couldn't name the FAT's ([MS-CFB] 2.3, 2.5)
pub record AreLean (version : Version) (count fat_count difat_count content : ℕ) : Type 0 where
  pub most : count ≤ content + fat_count + difat_count
  pub fat : (f d : ℕ) → f < fat_count → f ≤ named_at_most version d → f * (sector_len version / 4) ≤ content + f + d
  pub difat : (d : ℕ) → d < difat_count → named_at_most version d < fat_count

-- the part has no byte of what the header says of the tables: how many FAT sectors there are (byte 44), and from byte 68
-- on where the DIFAT is ([MS-CFB] 2.2)
abbrev pub IsBesideWords : ℕ → ℕ → Type 0
IsBesideWords place count = (place + count ≤ 44) ⊎ ((48 ≤ place) × (place + count ≤ 68)) ⊎ (512 ≤ place)
