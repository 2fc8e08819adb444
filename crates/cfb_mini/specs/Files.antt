-- What a change of mini chains leaves of the file ([MS-CFB] 2.2, 2.6).
use Rattle.std.specs.Prelude.{◌≡◌, ℕ, ◌≤◌, ◌++◌, List, length, slice_index_or}
use Rattle.cfb_directory.specs.Entries.{SizesFit}
use Rattle.cfb_directory.specs.Views.{directory_ids, entries_held}
use Rattle.cfb_fat.specs.Tables.{bytes_of, version_of}
use Rattle.cfb_medium.specs.declared.medium.ReadMedium.{Ghosts}
use Rattle.cfb_medium.specs.declared.version.Version.{Version}
use Rattle.cfb_medium.specs.declared.version.Version.TheVariants.{V3, V4}
use Rattle.cfb_mini.specs.Views.{allocator_of, directory_of, mini_fat_ids, mini_stream_ids}
use Rattle.cfb_mini.specs.declared.mini_allocator.MiniAllocator.{MiniAllocator}
use Rattle.cfb_sectors.specs.Header.{directory_sector_count, first_directory_sector, first_mini_fat_sector, mini_fat_sector_count, IsHeader}
use Rattle.cfb_sectors.specs.Sectors.{end_of_chain}

-- the header's number of the directory's sectors where they are so many: version 3 has 0 there ([MS-CFB] 2.2)
abbrev pub count_told : Version → ℕ → ℕ
count_told V3 count = 0
count_told V4 count = count

module _ {F : Type 0} {g : Ghosts F} where
  -- the header is one of its version, and tells where directory and mini FAT begin ([MS-CFB] 2.2)
  pub record HasHeader (it : MiniAllocator F g) : Type 0 where
    pub header : IsHeader (version_of (allocator_of it)) (bytes_of (allocator_of it))
    pub directory : first_directory_sector (bytes_of (allocator_of it)) ≡ slice_index_or (directory_ids (directory_of it)) 0 end_of_chain
    pub mini_fat : first_mini_fat_sector (bytes_of (allocator_of it)) ≡ slice_index_or (mini_fat_ids it) 0 end_of_chain

  -- the header tells how many sectors directory and mini FAT have ([MS-CFB] 2.2)
  pub record HasCounts (it : MiniAllocator F g) : Type 0 where
    pub directory : directory_sector_count (bytes_of (allocator_of it)) ≡ count_told (version_of (allocator_of it)) (length (directory_ids (directory_of it)))
    pub mini_fat : mini_fat_sector_count (bytes_of (allocator_of it)) ≡ length (mini_fat_ids it)

  -- The file has no byte fewer, and its header tells so much where it did. The mini stream keeps its sectors, and more may follow;
  -- entries can be written as they are where they could ([MS-CFB] 2.6.1).
  pub record LeavesFile (old new : MiniAllocator F g) : Type 0 where
    pub longer : length (bytes_of (allocator_of old)) ≤ length (bytes_of (allocator_of new))
    pub header : HasHeader old → HasHeader new
    pub counts : HasHeader old → HasCounts old → HasCounts new
    pub more : List ℕ
    pub stream : mini_stream_ids new ≡ mini_stream_ids old ++ more
    pub sizes : SizesFit (version_of (allocator_of old)) (entries_held (directory_of old)) → SizesFit (version_of (allocator_of new)) (entries_held (directory_of new))
