-- What growing calls do: a sector is appended, or taken from the free ones, and tables become longer.
use Rattle.std.specs.Prelude.{◌≡◌, ℕ, ◌+◌, ◌-◌, ◌*◌, ◌/◌, ◌<◌, ◌≤◌, ◌⊎◌, false, true, List, length, nat_eq, vec_capacity, IfErr, IsTrue, OnOk, Result}
use Rattle.cfb_medium.specs.declared.error.Error.{Error}
use Rattle.std.specs.List.{count_by, AllByRecursion}
use Rattle.cfb_medium.specs.Calls.{Reaches}
use Rattle.cfb_medium.specs.Versions.{sector_len}
use Rattle.cfb_medium.specs.declared.medium.ReadMedium.{Ghosts}
use Rattle.cfb_sectors.specs.Held as held
use Rattle.cfb_sectors.specs.Sectors.{filled_part, free, greatest_regular, sector_start}
use Rattle.cfb_sectors.specs.declared.sectors.Sectors.{Sectors}
use Rattle.cfb_fat.specs.declared.allocator.Allocator.{Allocator}
use Rattle.cfb_chains.specs.Behind.{AreWhole, IsMarkedBehind}
use Rattle.cfb_chains.specs.Changes.{IsBeside, IsFreeIn, IsNotIn, SameExceptAt}
use Rattle.cfb_fat.specs.Listed.{EndsAtSector}
use Rattle.cfb_fat.specs.Orderly.{AreLean, IsBesideWords}
use Rattle.cfb_fat.specs.Tables.{bytes_of, capacity_of, difat_sectors_of, fat_of, fat_sectors_of, has_failed_here, is_honest, medium_of, orderly_of, runs_of, sectors_of, tables_of, version_of, HasEnds, HeaderCountsTables}

module _ {F : Type 0} {g : Ghosts F} where
  -- where it has not failed one sector was appended, whole, and what lies before it stays but where this says so; nothing was
  -- published
  pub record Appends (stays : ℕ → ℕ → Type 0) (old new : Sectors F g) : Type 0 where
    pub honest : g.honest (held.medium_of new) ≡ g.honest (held.medium_of old)
    pub continues : Reaches g.continues (held.medium_of old) (held.medium_of new)
    pub version : held.version_of new ≡ held.version_of old
    pub live : held.has_failed_here new ≡ false → held.has_failed_here old ≡ false
    pub count : held.has_failed_here new ≡ false → held.count_of new ≡ held.count_of old + 1
    pub longer : held.has_failed_here new ≡ false → held.IsHonest old → length (held.bytes_of old) ≤ length (held.bytes_of new)
    pub whole : held.has_failed_here new ≡ false → held.IsHonest old → EndsAtSector (held.version_of old) (held.bytes_of new)
    pub before : held.has_failed_here new ≡ false → held.IsHonest old → (place count : ℕ) → place + count ≤ sector_start (held.version_of old) (held.count_of old) → stays place count
        → filled_part (held.bytes_of new) place count ≡ filled_part (held.bytes_of old) place count

  -- the part has no byte of the DIFAT's sectors, and none of what the header says of the tables
  abbrev pub IsBesideDifat : Sectors F g → List ℕ → ℕ → ℕ → Type 0
  IsBesideDifat it difat_sectors place count = IsBeside (held.version_of it) difat_sectors place count × IsBesideWords place count

  -- its tables are no larger than so many other sectors need
  abbrev pub IsLean : Allocator F g → ℕ → Type 0
  IsLean it = AreLean (version_of it) (length (fat_of it)) (length (fat_sectors_of it)) (length (difat_sectors_of it))

  -- where it has not failed at most these entries of the old FAT are changed, and of the old sectors' bytes at most those of
  -- tables and of these sectors that were taken; tables and file may have become longer, behind the old sectors, and then the
  -- header's numbers of the tables' sectors are right; file and DIFAT end as a strict reader asks for if they did; tables that were
  -- lean are lean with the taken sectors; nothing was published
  pub record GrowsFat (taken entries : List ℕ) (old new : Allocator F g) : Type 0 where
    pub honest : g.honest (medium_of new) ≡ g.honest (medium_of old)
    pub continues : Reaches g.continues (medium_of old) (medium_of new)
    pub version : version_of new ≡ version_of old
    pub live : has_failed_here new ≡ false → has_failed_here old ≡ false
    pub count : has_failed_here new ≡ false → held.count_of (sectors_of old) ≤ held.count_of (sectors_of new)
    pub orderly : has_failed_here new ≡ false → orderly_of new ≡ orderly_of old
    pub fat : has_failed_here new ≡ false → SameExceptAt entries (fat_of old) (fat_of new)
    pub tables : has_failed_here new ≡ false → (place count : ℕ) → place + count ≤ sector_start (version_of old) (held.count_of (sectors_of old)) → IsBeside (version_of old) (tables_of old) place count → IsBeside (version_of old) (tables_of new) place count
    pub still : has_failed_here new ≡ false → (n : ℕ) → (IsNotIn (difat_sectors_of new) n → IsNotIn (difat_sectors_of old) n) × (IsNotIn (fat_sectors_of new) n → IsNotIn (fat_sectors_of old) n)
    pub longer : has_failed_here new ≡ false → IsTrue (is_honest old) → length (bytes_of old) ≤ length (bytes_of new)
    pub lean : has_failed_here new ≡ false → (content : ℕ) → IsLean old content → IsLean new (content + length taken)
    pub told : has_failed_here new ≡ false → IsTrue (is_honest old) → HeaderCountsTables old ⊎ (length (tables_of old) < length (tables_of new)) → HeaderCountsTables new
    pub ends : has_failed_here new ≡ false → IsTrue (is_honest old) → IsTrue (orderly_of old) → HasEnds old → HasEnds new
    pub beside : has_failed_here new ≡ false → IsTrue (is_honest old) → (place count : ℕ) → place + count ≤ sector_start (version_of old) (held.count_of (sectors_of old))
        → IsBeside (version_of old) (tables_of old) place count → IsBesideWords place count → IsBeside (version_of old) taken place count
        → filled_part (bytes_of new) place count ≡ filled_part (bytes_of old) place count

  -- behind the old FAT's end stand these sectors, entries that were set, and the tables' own sectors with their marks
  abbrev pub MarksBehind : List ℕ → List ℕ → Allocator F g → Allocator F g → Type 0
  MarksBehind taken entries old new = IsMarkedBehind (difat_sectors_of new) (fat_sectors_of new) taken entries (fat_of old) (fat_of new)

  -- the file has these sectors with all their bytes
  abbrev pub HasWhole : List ℕ → Allocator F g → Type 0
  HasWhole taken it = AreWhole (version_of it) (bytes_of it) taken

  -- so it is, and these sectors, which were in no use, were taken into use; none came out of use
  pub record AllocatesSectors (taken entries : List ℕ) (old new : Allocator F g) : Type 0 where
    pub grows : GrowsFat taken entries old new
    pub free : has_failed_here new ≡ false → AllByRecursion (IsFreeIn (fat_of old)) taken
    pub used : has_failed_here new ≡ false → (n : ℕ) → IsFreeIn (fat_of new) n → IsFreeIn (fat_of old) n
    pub behind : has_failed_here new ≡ false → MarksBehind taken entries old new
    pub whole : has_failed_here new ≡ false → IsTrue (is_honest old) → HasWhole taken new

  -- so many entries more the FAT's sectors have places for
  abbrev pub places_left : Allocator F g → ℕ
  places_left it = length (fat_sectors_of it) * (sector_len (version_of it) / 4) - length (fat_of it)

  -- there is memory for so many entries of the FAT to be set or added, and then for so many sectors more. Each may be cut out of a
  -- run, which makes two runs more; where the FAT is full, a sector of it and one of the DIFAT are added with their marks, which
  -- makes six, and then there are places for long
  pub record HasMemory (it : Allocator F g) (entries sectors : ℕ) : Type 0 where
    pub fat : runs_of it + (2 * entries + 2 * sectors + (6 - places_left it)) ≤ capacity_of it
    pub fat_sectors : length (fat_sectors_of it) + sectors ≤ vec_capacity it.fat_sectors
    pub difat_sectors : length (difat_sectors_of it) + sectors ≤ vec_capacity it.difat_sectors

  -- it takes a sector from what there is memory for, and leaves so many entries; then an error is one of these, or a write has failed
  abbrev pub Spends : {T : Type 0} → ℕ → (Error → Type 0) → Result T Error → Allocator F g → Allocator F g → Type 0
  Spends left refuses result old new = (n : ℕ) → HasMemory old 0 (n + 1) → OnOk result (HasMemory new left n) × IfErr result (λ e. (has_failed_here new ≡ true) ⊎ refuses e)

  -- the same where no error is left to come but a fault in a write
  abbrev pub SpendsOne : {T : Type 0} → ℕ → Result T Error → Allocator F g → Allocator F g → Type 0
  SpendsOne left result old new = (n : ℕ) → HasMemory old 0 (n + 1) → OnOk result (HasMemory new left n)

  -- what there is memory for stays
  abbrev pub KeepsMemory : Allocator F g → Allocator F g → Type 0
  KeepsMemory old new = (entries n : ℕ) → HasMemory old entries n → HasMemory new entries n

  -- fewer numbers of sectors are left than this: those of "free" entries, and those behind the FAT
  abbrev pub LacksSectorNumbers : Allocator F g → ℕ → Type 0
  LacksSectorNumbers it count = greatest_regular + 1 + count_by (λ entry. nat_eq entry free) (fat_of it) < length (fat_of it) + count
