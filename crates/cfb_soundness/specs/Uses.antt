-- What the streams of a file use, told by the tables that memory has.
use Rattle.std.specs.Prelude.{◌≡◌, ◌≢◌, ℕ, ◌+◌, ◌*◌, ◌/◌, ◌%◌, ◌<◌, ◌≤◌, ◌⊎◌, Bool, true, List, [], ◌∷◌, ◌++◌, map, slice_get, slice_index, Some}
use Rattle.std.specs.List.{AllByRecursion}
use Rattle.cfb_medium.specs.Versions.{sector_len}
use Rattle.cfb_medium.specs.declared.error.Error.{Error}
use Rattle.cfb_medium.specs.declared.error.Error.TheVariants.{Failed, Memory}
use Rattle.cfb_medium.specs.declared.version.Version.{Version}
use Rattle.cfb_sectors.specs.Header.{mini_cutoff}
use Rattle.cfb_sectors.specs.Sectors.{free, sector_start, Chain}
use Rattle.cfb_tree.specs.Directory.{kind_stream, Entry}
use Rattle.cfb_mini.specs.Minis.{AreInside}
use Rattle.cfb_soundness.specs.Places.{HoldBytes}

-- the FAT and the mini FAT, the mini stream's sectors and how many bytes it has, the directory's entries, and the file's bytes
pub record SectorTables : Type 0 where
  pub version : Version
  pub fat : List ℕ
  pub mini_fat : List ℕ
  pub mini_stream : List ℕ
  pub mini_len : ℕ
  pub entries : List Entry
  pub file_len : ℕ

-- where a mini sector begins in the file: it lies in one sector of the mini stream ([MS-CFB] 2.4)
abbrev pub mini_start : SectorTables → ℕ → ℕ
mini_start t n = sector_start t.version (slice_index t.mini_stream (64 * n / sector_len t.version)) + 64 * n % sector_len t.version

-- a stream of at least 4096 bytes has these sectors, and its bytes stand in the file ([MS-CFB] 2.6.3)
pub record HasSectors (t : SectorTables) (e : Entry) (sectors : List ℕ) : Type 0 where
  pub chain : Chain t.fat e.start sectors
  pub held : HoldBytes (sector_len t.version) (map (sector_start t.version) sectors) e.size t.file_len

-- a shorter one has these mini sectors, and its bytes stand in the file ([MS-CFB] 2.4)
pub record HasMiniSectors (t : SectorTables) (e : Entry) (minis : List ℕ) : Type 0 where
  pub chain : Chain t.mini_fat e.start minis
  pub inside : AreInside t.mini_len minis
  pub held : HoldBytes 64 (map (mini_start t) minis) e.size t.file_len

-- entry `id` uses these sectors and these mini sectors: a stream those of its chain, another entry none
pub record EntryHas (t : SectorTables) (id : ℕ) (sectors minis : List ℕ) : Type 0 where
  pub entry : Entry
  pub found : slice_get t.entries id ≡ Some entry
  pub short : entry.kind ≡ kind_stream → entry.size < mini_cutoff → (sectors ≡ []) × HasMiniSectors t entry minis
  pub long : entry.kind ≡ kind_stream → mini_cutoff ≤ entry.size → (minis ≡ []) × HasSectors t entry sectors
  pub other : entry.kind ≢ kind_stream → (sectors ≡ []) × (minis ≡ [])

-- so do these entries, one after the other
abbrev pub EntriesHave : SectorTables → List ℕ → List ℕ → List ℕ → Type 0
EntriesHave t [] sectors minis = (sectors ≡ []) × (minis ≡ [])
EntriesHave t (id ∷ ids) sectors minis =
    (own : List ℕ) × (rest : List ℕ) × (own_minis : List ℕ) × (rest_minis : List ℕ) × EntryHas t id own own_minis
    × EntriesHave t ids rest rest_minis × (sectors ≡ own ++ rest) × (minis ≡ own_minis ++ rest_minis)

-- the FAT has an entry for each of these sectors that isn't "free" ([MS-CFB] 2.3)
abbrev pub AreInUse : List ℕ → List ℕ → Type 0
AreInUse fat sectors = AllByRecursion (λ n. (next : ℕ) × (slice_get fat n ≡ Some next) × (next ≢ free)) sectors

-- want of memory, or a fault before has left the layer below in a state of failure
abbrev pub IsOutOfMemoryOrFailed : Bool → Error → Type 0
IsOutOfMemoryOrFailed failed e = (e ≡ Memory) ⊎ ((e ≡ Failed) × (failed ≡ true))
