-- What the header and the DIFAT say of the tables ([MS-CFB] 2.2, 2.5).
use Rattle.std.specs.Prelude.{◌≡◌, ℕ, ◌-◌, ◌%◌, ◌⊎◌, List, [], ◌∷◌, ◌++◌, length, replicate}
use Rattle.cfb_medium.specs.Numbers.{u32_at}
use Rattle.cfb_medium.specs.Versions.{sector_len}
use Rattle.cfb_medium.specs.declared.version.Version.{Version}
use Rattle.cfb_sectors.specs.Header.{difat_sector_count, fat_sector_count, first_difat_sector}
use Rattle.cfb_sectors.specs.Sectors.{difat, end_of_chain, free, sector, DifatChain}

-- the DIFAT's chain ends at such a mark; "free" is taken too
abbrev pub IsStop : ℕ → Type 0
IsStop stop = (stop ≡ end_of_chain) ⊎ (stop ≡ free)

-- where the DIFAT's chain from a start comes to behind these sectors
abbrev pub stop_behind : Version → List ℕ → ℕ → List ℕ → ℕ
stop_behind version bytes start [] = start
stop_behind version bytes start (n ∷ rest) = stop_behind version bytes (u32_at (sector version bytes start) (sector_len version - 4)) rest

-- the DIFAT has these sectors, and names these as the FAT's; only "free" entries follow
pub record Lists (version : Version) (bytes difat_sectors fat_sectors : List ℕ) : Type 0 where
  pub stop : ℕ
  pub stops : IsStop stop
  pub chain : DifatChain version bytes (first_difat_sector bytes) difat_sectors stop
  pub unused : ℕ
  pub entries : difat version bytes difat_sectors ≡ fat_sectors ++ replicate unused free

-- the header counts so many sectors of the DIFAT and of the FAT ([MS-CFB] 2.2)
pub record Counts (bytes difat_sectors fat_sectors : List ℕ) : Type 0 where
  pub difat_count : difat_sector_count bytes ≡ length difat_sectors
  pub fat_count : fat_sector_count bytes ≡ length fat_sectors

-- the file ends where a sector does ([MS-CFB] 2.1)
abbrev pub EndsAtSector : Version → List ℕ → Type 0
EndsAtSector version bytes = length bytes % sector_len version ≡ 0

-- so it does, and the DIFAT's chain behind these sectors is at "end of chain" ([MS-CFB] 2.5)
pub record EndsAsStrict (version : Version) (bytes difat_sectors : List ℕ) : Type 0 where
  pub whole : EndsAtSector version bytes
  pub stop : stop_behind version bytes (first_difat_sector bytes) difat_sectors ≡ end_of_chain
