-- What a change of the FAT leaves, and what a write beside it.
use Rattle.std.specs.Prelude.{◌≡◌, ℕ, ◌≤◌, ◌++◌, false, List, length, take, IsTrue}
use Rattle.cfb_medium.specs.Calls.{Reaches}
use Rattle.cfb_medium.specs.declared.medium.ReadMedium.{Ghosts}
use Rattle.cfb_sectors.specs.Held.{count_of, EndsIn, WritesBytesAt}
use Rattle.cfb_sectors.specs.Held as held
use Rattle.cfb_sectors.specs.Sectors.{fat_in, filled_part}
use Rattle.cfb_sectors.specs.declared.sectors.Sectors.{Sectors}
use Rattle.cfb_fat.specs.declared.allocator.Allocator.{Allocator}
use Rattle.cfb_chains.specs.Changes.{AreDistinct, DifferOnlyAt, IsBeside}
use Rattle.cfb_fat.specs.Listed.{Counts, EndsAtSector, Lists}
use Rattle.cfb_fat.specs.Orderly.{IsBesideWords}
use Rattle.cfb_fat.specs.Tables.{bytes_of, difat_sectors_of, fat_of, fat_sectors_of, has_failed_here, is_honest, medium_of, orderly_of, sectors_of, version_of, HasEnds, HeaderCountsTables}

module _ {F : Type 0} {g : Ghosts F} where
  -- the FAT that these sectors hold, an entry for each sector of the file
  abbrev pub fat_here : List ℕ → Sectors F g → List ℕ
  fat_here fat_sectors it = take (count_of it) (fat_in (held.version_of it) (held.bytes_of it) fat_sectors)

  -- where it has not failed at most these entries of the FAT that these sectors hold are changed, and all that lies beside the
  -- sectors is as it was; what header and DIFAT say of them stays, and a whole file stays whole; nothing was published
  pub record WritesFatEntries (entries fat_sectors : List ℕ) (old new : Sectors F g) : Type 0 where
    pub honest : g.honest (held.medium_of new) ≡ g.honest (held.medium_of old)
    pub continues : Reaches g.continues (held.medium_of old) (held.medium_of new)
    pub version : held.version_of new ≡ held.version_of old
    pub count : count_of new ≡ count_of old
    pub live : held.has_failed_here new ≡ false → held.has_failed_here old ≡ false
    pub fat : held.has_failed_here new ≡ false → held.IsHonest old → AreDistinct fat_sectors → DifferOnlyAt entries (fat_here fat_sectors old) (fat_here fat_sectors new)
    pub longer : held.has_failed_here new ≡ false → held.IsHonest old → length (held.bytes_of old) ≤ length (held.bytes_of new)
    pub told : held.has_failed_here new ≡ false → held.IsHonest old → (difat_sectors : List ℕ) → Counts (held.bytes_of old) difat_sectors fat_sectors → Counts (held.bytes_of new) difat_sectors fat_sectors
    pub whole : held.has_failed_here new ≡ false → held.IsHonest old → EndsAtSector (held.version_of old) (held.bytes_of old) → EndsAtSector (held.version_of old) (held.bytes_of new)
    pub lists : held.has_failed_here new ≡ false → held.IsHonest old → (difat_sectors : List ℕ) → AreDistinct (difat_sectors ++ fat_sectors)
        → Lists (held.version_of old) (held.bytes_of old) difat_sectors fat_sectors → Lists (held.version_of new) (held.bytes_of new) difat_sectors fat_sectors
    pub beside : held.has_failed_here new ≡ false → held.IsHonest old → (place count : ℕ) → IsBeside (held.version_of old) fat_sectors place count
        → filled_part (held.bytes_of new) place count ≡ filled_part (held.bytes_of old) place count

  -- where it has not failed at most these entries of the FAT are changed, and all that lies beside the FAT's sectors is as
  -- it was; file and DIFAT end as a strict reader asks for if they did; nothing was published
  pub record ChangesFat (entries : List ℕ) (old new : Allocator F g) : Type 0 where
    pub honest : g.honest (medium_of new) ≡ g.honest (medium_of old)
    pub continues : Reaches g.continues (medium_of old) (medium_of new)
    pub version : version_of new ≡ version_of old
    pub count : count_of (sectors_of new) ≡ count_of (sectors_of old)
    pub fat_sectors : fat_sectors_of new ≡ fat_sectors_of old
    pub difat_sectors : difat_sectors_of new ≡ difat_sectors_of old
    pub orderly : orderly_of new ≡ orderly_of old
    pub live : has_failed_here new ≡ false → has_failed_here old ≡ false
    pub fat : has_failed_here new ≡ false → DifferOnlyAt entries (fat_of old) (fat_of new)
    pub longer : has_failed_here new ≡ false → IsTrue (is_honest old) → length (bytes_of old) ≤ length (bytes_of new)
    pub told : has_failed_here new ≡ false → IsTrue (is_honest old) → HeaderCountsTables old → HeaderCountsTables new
    pub ends : has_failed_here new ≡ false → IsTrue (is_honest old) → IsTrue (orderly_of old) → HasEnds old → HasEnds new
    pub beside : has_failed_here new ≡ false → IsTrue (is_honest old) → (place count : ℕ) → IsBeside (version_of old) (fat_sectors_of old) place count
        → filled_part (bytes_of new) place count ≡ filled_part (bytes_of old) place count

  -- so many bytes from this place of the file on may be written: they end in its sectors, and none is one of the tables
  pub record MayWrite (it : Allocator F g) (place count : ℕ) : Type 0 where
    pub ends : EndsIn (sectors_of it) place count
    pub fat : IsBeside (version_of it) (fat_sectors_of it) place count
    pub difat : IsBeside (version_of it) (difat_sectors_of it) place count
    pub words : IsBesideWords place count

  -- these bytes were written at this place, and the tables stay
  pub record WritesBeside (place : ℕ) (bytes : List ℕ) (old new : Allocator F g) : Type 0 where
    pub sectors : WritesBytesAt place bytes (sectors_of old) (sectors_of new)
    pub fat : fat_of new ≡ fat_of old
    pub fat_sectors : fat_sectors_of new ≡ fat_sectors_of old
    pub difat_sectors : difat_sectors_of new ≡ difat_sectors_of old
    pub orderly : orderly_of new ≡ orderly_of old
