-- What a `Directory` shows: the layer below, the sectors that hold it, and its entries.
use Rattle.std.specs.Prelude.{◌≡◌, ℕ, List, false, IsTrue}
use Rattle.cfb_medium.specs.declared.medium.ReadMedium.{Ghosts}
use Rattle.cfb_sectors.specs.Sectors.{joined}
use Rattle.cfb_chains.specs.Grown.{IsChainInTable}
use Rattle.cfb_chains.specs.LinkViews.{ids_of, links_version}
use Rattle.cfb_chains.specs.declared.links.Links.{Links}
use Rattle.cfb_fat.specs.Tables.{bytes_of, fat_of, has_failed_here, is_honest, version_of, OnlyReadsAllocator, KeepsTables}
use Rattle.cfb_fat.specs.declared.allocator.Allocator.{Allocator}
use Rattle.cfb_tree.specs.Directory.{Entry, entries_of}
use Rattle.cfb_directory.specs.Entries.{entries_in}
use Rattle.cfb_directory.specs.declared.directory.Directory.{Directory}

module _ {F : Type 0} {g : Ghosts F} where
  abbrev pub allocator_of : Directory F g → Allocator F g
  allocator_of it = it.allocator

  -- the same directory over this layer below
  abbrev pub with_allocator : Directory F g → Allocator F g → Directory F g
  with_allocator it allocator = record it { allocator = allocator }

  abbrev pub links_of : Directory F g → Links
  links_of it = it.links

  -- the sectors that hold the directory, in the order of their chain
  abbrev pub directory_ids : Directory F g → List ℕ
  directory_ids it = ids_of it.links

  -- the entries in memory, by number ([MS-CFB] 2.6)
  abbrev pub entries_held : Directory F g → List Entry
  entries_held it = entries_in it.entries.items.items

  -- numbers of entries, among which are those of all in no use
  abbrev pub numbers_noted : Directory F g → List ℕ
  numbers_noted it = it.entries.unused.items

  -- memory is that of the bytes: while nothing failed and the medium is honest the FAT has the chain of the directory's sectors,
  -- and the entries are those that these hold ([MS-CFB] 2.6)
  pub record DirectoryMatchesBytes (it : Directory F g) : Type 0 where
    pub version : has_failed_here (allocator_of it) ≡ false → IsTrue (is_honest (allocator_of it)) → links_version it.links ≡ version_of (allocator_of it)
    pub linked : has_failed_here (allocator_of it) ≡ false → IsTrue (is_honest (allocator_of it)) → IsChainInTable (fat_of (allocator_of it)) (directory_ids it)
    pub entries : has_failed_here (allocator_of it) ≡ false → IsTrue (is_honest (allocator_of it))
        → entries_held it ≡ entries_of (version_of (allocator_of it)) (joined (version_of (allocator_of it)) (bytes_of (allocator_of it)) (directory_ids it))

  -- nothing but reads and flushes was done
  pub record OnlyReadsDirectory (old new : Directory F g) : Type 0 where
    pub allocator : OnlyReadsAllocator (allocator_of old) (allocator_of new)
    pub ids : directory_ids new ≡ directory_ids old
    pub entries : entries_held new ≡ entries_held old
    pub kept : DirectoryMatchesBytes old → DirectoryMatchesBytes new

  -- the memory is what it was, and that of the bytes where it was so
  pub record DirectoryKeepsMemory (old new : Directory F g) : Type 0 where
    pub honest : is_honest (allocator_of new) ≡ is_honest (allocator_of old)
    pub live : has_failed_here (allocator_of new) ≡ false → has_failed_here (allocator_of old) ≡ false
    pub tables : KeepsTables (allocator_of old) (allocator_of new)
    pub ids : directory_ids new ≡ directory_ids old
    pub entries : entries_held new ≡ entries_held old
    pub kept : DirectoryMatchesBytes old → DirectoryMatchesBytes new
