-- What an `Allocator` shows: its sectors, the FAT, and which sectors hold the FAT and the DIFAT.
use Rattle.std.specs.Prelude.{◌≡◌, ℕ, ◌++◌, Bool, List}
use Rattle.cfb_medium.specs.declared.error.Error.{Error}
use Rattle.cfb_medium.specs.declared.medium.ReadMedium.{Ghosts}
use Rattle.cfb_medium.specs.declared.version.Version.{Version}
use Rattle.cfb_fat.specs.declared.allocator.Allocator.{Allocator}
use Rattle.cfb_fat.specs.Listed.{Counts, EndsAsStrict}
use Rattle.cfb_sectors.specs.declared.sectors.Sectors.{Sectors}
use Rattle.cfb_fat_runs.specs.Tables.{entries_of, run_capacity, run_count}
use Rattle.cfb_sectors.specs.Held as held

module _ {F : Type 0} {g : Ghosts F} where
  abbrev pub sectors_of : Allocator F g → Sectors F g
  sectors_of it = it.sectors

  abbrev pub medium_of : Allocator F g → F
  medium_of it = held.medium_of it.sectors

  abbrev pub version_of : Allocator F g → Version
  version_of it = held.version_of it.sectors

  abbrev pub difat_sectors_of : Allocator F g → List ℕ
  difat_sectors_of it = it.difat_sectors.items

  abbrev pub fat_sectors_of : Allocator F g → List ℕ
  fat_sectors_of it = it.fat_sectors.items

  -- the FAT, an entry for each sector ([MS-CFB] 2.3)
  abbrev pub fat_of : Allocator F g → List ℕ
  fat_of it = entries_of it.fat

  -- so many runs the FAT is kept as
  abbrev pub runs_of : Allocator F g → ℕ
  runs_of it = run_count it.fat

  -- so many runs of the FAT have memory
  abbrev pub capacity_of : Allocator F g → ℕ
  capacity_of it = run_capacity it.fat

  abbrev pub bytes_of : Allocator F g → List ℕ
  bytes_of it = held.bytes_of it.sectors

  abbrev pub is_honest : Allocator F g → Bool
  is_honest it = held.is_honest it.sectors

  -- a fault in a write or a commit below has left it in a state in which every call is refused
  abbrev pub has_failed_here : Allocator F g → Bool
  has_failed_here it = held.has_failed_here it.sectors

  -- so does a fault of the medium
  abbrev pub has_failed : Allocator F g → Bool
  has_failed it = held.has_failed it.sectors

  -- the sectors of DIFAT and FAT
  abbrev pub tables_of : Allocator F g → List ℕ
  tables_of it = difat_sectors_of it ++ fat_sectors_of it

  -- the header's numbers of these are right
  abbrev pub HeaderCountsTables : Allocator F g → Type 0
  HeaderCountsTables it = Counts (bytes_of it) (difat_sectors_of it) (fat_sectors_of it)

  -- the file and its DIFAT end as a strict reader asks for ([MS-CFB] 2.1, 2.5)
  abbrev pub HasEnds : Allocator F g → Type 0
  HasEnds it = EndsAsStrict (version_of it) (bytes_of it) (difat_sectors_of it)

  -- whether its tables can be changed
  abbrev pub orderly_of : Allocator F g → Bool
  orderly_of it = it.is_orderly

  -- nothing but reads and flushes was done
  pub record OnlyReadsAllocator (old new : Allocator F g) : Type 0 where
    pub sectors : held.OnlyReadsSectors old.sectors new.sectors
    pub fat : fat_of new ≡ fat_of old
    pub fat_sectors : fat_sectors_of new ≡ fat_sectors_of old
    pub difat_sectors : difat_sectors_of new ≡ difat_sectors_of old
    pub orderly : orderly_of new ≡ orderly_of old

  -- the tables are those that they were, and as many sectors are there
  pub record KeepsTables (old new : Allocator F g) : Type 0 where
    pub version : version_of new ≡ version_of old
    pub count : held.count_of (sectors_of new) ≡ held.count_of (sectors_of old)
    pub fat : fat_of new ≡ fat_of old
    pub fat_sectors : fat_sectors_of new ≡ fat_sectors_of old
    pub difat_sectors : difat_sectors_of new ≡ difat_sectors_of old
    pub orderly : orderly_of new ≡ orderly_of old

  -- it is as it was, but every call is refused
  pub record AllFails (old new : Allocator F g) : Type 0 where
    pub sectors : held.Fails old.sectors new.sectors
    pub fat : fat_of new ≡ fat_of old
    pub fat_sectors : fat_sectors_of new ≡ fat_sectors_of old
    pub difat_sectors : difat_sectors_of new ≡ difat_sectors_of old
    pub orderly : orderly_of new ≡ orderly_of old

  -- the error has its cause in the sectors
  abbrev pub IsJustifiedBySectors : Allocator F g → Allocator F g → Error → Type 0
  IsJustifiedBySectors old new error = held.IsJustifiedByMedium old.sectors new.sectors error
