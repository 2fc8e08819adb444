-- A file in the making, to which chains are added: who owns which of its sectors, and that no sector is spare ([MS-CFB] 2.1).
use Rattle.std.specs.Prelude.{◌≡◌, ◌⊎◌, ℕ, ◌<◌, List, false, length, slice_index, IsTrue, if◌then◌else◌, nat_eq}
use Rattle.cfb_medium.specs.declared.medium.ReadMedium.{Ghosts}
use Rattle.cfb_sectors.specs.Header.{first_directory_sector, first_mini_fat_sector, IsHeader}
use Rattle.cfb_sectors.specs.Sectors.{joined}
use Rattle.cfb_chains.specs.Behind.{AreWhole}
use Rattle.cfb_chains.specs.Owned.{OwnDisjointChains, SectorLayer}
use Rattle.cfb_fat.specs.Seeing.{seen_of}
use Rattle.cfb_fat.specs.Tables.{bytes_of, fat_of, has_failed_here, is_honest, orderly_of, tables_of, version_of}
use Rattle.cfb_fat.specs.declared.allocator.Allocator.{Allocator}

-- the number stands in the list
abbrev pub IsOneOf : List ℕ → ℕ → Type 0
IsOneOf xs n = (k : ℕ) × (k < length xs) × (slice_index xs k ≡ n)

-- each sector holds a table, or has an owner
abbrev pub HasNoSpare : SectorLayer → (ℕ → List ℕ) → Type 0
HasNoSpare s own = (n : ℕ) → n < length s.table → IsOneOf s.tables n ⊎ ((key : ℕ) × IsOneOf (own key) n)

-- lists by keys, of which one has another
abbrev pub with_list : ℕ → List ℕ → (ℕ → List ℕ) → ℕ → List ℕ
with_list key xs lists k = if nat_eq k key then xs else lists k

module _ {F : Type 0} {g : Ghosts F} where
  -- THE FILE IN THE MAKING: nothing has failed, its tables can be changed, its header says where directory and mini FAT begin, these
  -- own its sectors, which lie in the file whole and hold these bytes, and no sector is spare
  pub record IsFileInProgress (directory mini_fat : ℕ) (it : Allocator F g) (own bytes : ℕ → List ℕ) : Type 0 where
    pub live : has_failed_here it ≡ false
    pub honest : IsTrue (is_honest it)
    pub orderly : IsTrue (orderly_of it)
    pub header : IsHeader (version_of it) (bytes_of it)
    pub directory_at : first_directory_sector (bytes_of it) ≡ directory
    pub mini_fat_at : first_mini_fat_sector (bytes_of it) ≡ mini_fat
    pub owned : OwnDisjointChains (fat_of it) (tables_of it) own
    pub holds : (k : ℕ) → joined (version_of it) (bytes_of it) (own k) ≡ bytes k
    pub whole : (k : ℕ) → AreWhole (version_of it) (bytes_of it) (own k)
    pub tight : HasNoSpare (seen_of it) own
