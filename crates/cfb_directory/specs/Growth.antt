-- What a directory is that took in entries in no use ([MS-CFB] 2.6.3).
use Rattle.std.specs.Prelude.{◌≡◌, ◌⊎◌, ℕ, ◌+◌, ◌<◌, ◌≤◌, List, [], ◌∷◌, ◌++◌, ⊤, length, replicate, IsTrue}
use Rattle.cfb_medium.specs.Versions.{dir_entries_per_sector}
use Rattle.cfb_medium.specs.declared.medium.ReadMedium.{Ghosts}
use Rattle.cfb_medium.specs.declared.version.Version.{Version}
use Rattle.cfb_medium.specs.declared.version.Version.TheVariants.{V3, V4}
use Rattle.cfb_sectors.specs.Header.{directory_sector_count}
use Rattle.cfb_sectors.specs.Sectors.{greatest_regular, sector}
use Rattle.cfb_chains.specs.Owned.{ReplacesChain}
use Rattle.cfb_fat.specs.Growing.{LacksSectorNumbers}
use Rattle.cfb_fat.specs.Seeing.{seen_of}
use Rattle.cfb_fat.specs.Tables.{bytes_of, orderly_of, version_of}
use Rattle.cfb_tree.specs.Directory.{greatest_entry, Entry}
use Rattle.cfb_tree.specs.Entries.{empty_entry}
use Rattle.cfb_directory.specs.Changes.{HasDirectory}
use Rattle.cfb_directory.specs.Entries.{HasNoneUnused, SizesFit}
use Rattle.cfb_directory.specs.Views.{allocator_of, directory_ids, entries_held}
use Rattle.cfb_directory.specs.declared.directory.Directory.{Directory}

-- the header's number of the directory's sectors, which version 3 has not ([MS-CFB] 2.2)
abbrev pub count_words : Version → List ℕ
count_words V3 = []
count_words V4 = 40 ∷ []

-- in version 4 the header counts so many sectors of the directory ([MS-CFB] 2.2)
abbrev pub HeaderCountsDirectory : Version → List ℕ → ℕ → Type 0
HeaderCountsDirectory V3 bytes count = ⊤
HeaderCountsDirectory V4 bytes count = directory_sector_count bytes ≡ count

-- the entries, and those of a sector in no use behind them
abbrev pub longer : Version → List Entry → List Entry
longer version entries = entries ++ replicate (dir_entries_per_sector version) empty_entry

-- the entries, or where none is in no use, with those of a sector behind them, where each has a number ([MS-CFB] 2.6.1)
abbrev pub MayGrow : Version → List Entry → List Entry → Type 0
MayGrow version old new = (new ≡ old) ⊎ ((new ≡ longer version old) × (length new ≤ greatest_entry + 1) × HasNoneUnused old)

module _ {F : Type 0} {g : Ghosts F} where
  -- the directory has its sectors, and behind them others that were in no use; where the header counted them it does. No other
  -- owner's sector is touched
  pub record GrowsDirectory (old new : Directory F g) : Type 0 where
    pub more : List ℕ
    pub ids : directory_ids new ≡ directory_ids old ++ more
    pub becomes : ReplacesChain (sector (version_of (allocator_of old))) (count_words (version_of (allocator_of old))) (directory_ids old) more (directory_ids new) (seen_of (allocator_of old)) (seen_of (allocator_of new))
    pub has : HasDirectory new
    pub counted : HeaderCountsDirectory (version_of (allocator_of old)) (bytes_of (allocator_of old)) (length (directory_ids old)) → HeaderCountsDirectory (version_of (allocator_of old)) (bytes_of (allocator_of new)) (length (directory_ids new))

  -- the directory can take in entries: its sectors are a chain beside the tables, which can be changed, and its entries can be
  -- written as they are
  pub record CanGrowDirectory (it : Directory F g) : Type 0 where
    pub has : HasDirectory it
    pub orderly : IsTrue (orderly_of (allocator_of it))
    pub sizes : SizesFit (version_of (allocator_of it)) (entries_held it)

  -- no entry is in no use, and numbers are missing for a sector of entries more: of the entries, or of the sector, in the FAT or
  -- in the directory's chain ([MS-CFB] 2.2, 2.6.1)
  unfoldable pub LacksEntries : Directory F g → Type 0
  LacksEntries it = HasNoneUnused (entries_held it) × ((greatest_entry + 1 < length (entries_held it) + dir_entries_per_sector (version_of (allocator_of it)))
      ⊎ LacksSectorNumbers (allocator_of it) 1 ⊎ (greatest_regular < length (directory_ids it)))
