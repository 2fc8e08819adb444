-- That nothing is found.
use Rattle.std.specs.Prelude.{◌≡◌, ◌≤◌, ◌+◌, ◌++◌, ℕ, min, Bool, List, [], length, IsTrue}
use Rattle.cfb_medium.specs.declared.medium.ReadMedium.{Ghosts}
use Rattle.cfb_sectors.specs.Held.{count_of}
use Rattle.cfb_sectors.specs.Sectors.{greatest_regular}
use Rattle.cfb_fat.specs.Tables.{difat_sectors_of, fat_of, fat_sectors_of, sectors_of}
use Rattle.cfb_directory.specs.Views.{entries_held}
use Rattle.cfb_mini.specs.Views.{allocator_of, directory_of, mini_fat_of}
use Rattle.cfb_mini.specs.declared.mini_allocator.MiniAllocator.{MiniAllocator}
use Rattle.cfb_soundness.specs.Views.{table_sectors}
use Rattle.cfb_findings.specs.Broken.{AreBroken}
use Rattle.cfb_findings.specs.Findings.{is_long, is_short, shared, starts_where, unmarked, ChainsFrom}
use Rattle.cfb_findings.specs.Seen.{tables_seen}

module _ {F : Type 0} {g : Ghosts F} where
  -- the FAT covers the file, and each list is empty, where the tree has these entries
  pub record HasNoFindings (file : MiniAllocator F g) (file_len : ℕ) (ids : List ℕ) : Type 0 where
    pub covered : count_of (sectors_of (allocator_of file)) ≤ length (fat_of (allocator_of file))
    pub marked : unmarked (fat_of (allocator_of file)) (fat_sectors_of (allocator_of file) ++ difat_sectors_of (allocator_of file)) ≡ []
    pub whole : AreBroken (tables_seen file file_len) ids []
    pub streams : List ℕ
    pub chains : ChainsFrom (fat_of (allocator_of file)) (starts_where is_long (entries_held (directory_of file)) ids) streams
    pub apart : shared (count_of (sectors_of (allocator_of file))) (table_sectors file ++ streams) ≡ []
    pub minis : List ℕ
    pub mini_chains : ChainsFrom (mini_fat_of file) (starts_where is_short (entries_held (directory_of file)) ids) minis
    pub minis_apart : shared (min (length (mini_fat_of file)) (greatest_regular + 1)) minis ≡ []

-- the test tells whether the list that is found is empty
pub record TellsNone (Found : List ℕ → Type 0) (test : Bool) : Type 0 where
  pub found : List ℕ
  pub is : Found found
  pub empty : IsTrue test → found ≡ []
  pub tells : found ≡ [] → IsTrue test

-- the test tells whether no part serves two uses, of these and the chains from these starts
pub record TellsUnshared (table starts : List ℕ) (count : ℕ) (tables : List ℕ) (test : Bool) : Type 0 where
  pub streams : List ℕ
  pub chains : ChainsFrom table starts streams
  pub empty : IsTrue test → shared count (tables ++ streams) ≡ []
  pub tells : shared count (tables ++ streams) ≡ [] → IsTrue test
