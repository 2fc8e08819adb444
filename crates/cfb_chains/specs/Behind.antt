-- What stands behind the old end of a table that became longer.
use Rattle.std.specs.Prelude.{◌≡◌, ℕ, ◌+◌, ◌<◌, ◌≤◌, ◌⊎◌, List, length, slice_index}
use Rattle.std.specs.List.{AllByRecursion}
use Rattle.cfb_medium.specs.Versions.{sector_len}
use Rattle.cfb_medium.specs.declared.version.Version.{Version}
use Rattle.cfb_sectors.specs.Sectors.{difat_sector, fat_sector, sector_start}
use Rattle.cfb_chains.specs.Changes.{IsNotIn}

-- the sector is one of these, and its entry is their mark
abbrev pub HasMark : List ℕ → ℕ → List ℕ → ℕ → Type 0
HasMark sectors mark table n = (IsNotIn sectors n → ⊥) × (slice_index table n ≡ mark)

-- each entry behind the old table's end, but for those of taken sectors and those that were set, is that of a sector of the
-- DIFAT or of the FAT, with its mark ([MS-CFB] 2.3)
abbrev pub IsMarkedBehind : List ℕ → List ℕ → List ℕ → List ℕ → List ℕ → List ℕ → Type 0
IsMarkedBehind difat_sectors fat_sectors taken entries old new =
    (n : ℕ) → length old ≤ n → n < length new → IsNotIn taken n → IsNotIn entries n
    → HasMark difat_sectors difat_sector new n ⊎ HasMark fat_sectors fat_sector new n

-- these sectors lie in the file with all their bytes
abbrev pub AreWhole : Version → List ℕ → List ℕ → Type 0
AreWhole version bytes sectors = AllByRecursion (λ n. sector_start version n + sector_len version ≤ length bytes) sectors
