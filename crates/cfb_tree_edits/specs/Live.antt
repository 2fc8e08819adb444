-- Which tree a live file means: its bytes, and what memory has of them ([MS-CFB] 2).
use Rattle.std.specs.Prelude.{◌≡◌, false, IsTrue}
use Rattle.cfb_medium.specs.declared.medium.ReadMedium.{Ghosts}
use Rattle.cfb_sectors.specs.Held.{count_of}
use Rattle.cfb_fat.specs.Tables.{bytes_of, difat_sectors_of, fat_of, fat_sectors_of, has_failed_here, orderly_of, sectors_of, version_of}
use Rattle.cfb_tree.specs.Names.{CaseTable}
use Rattle.cfb_tree.specs.Tree.{Tree}
use Rattle.cfb_directory.specs.Entries.{SizesFit}
use Rattle.cfb_directory.specs.Views.{entries_held}
use Rattle.cfb_mini.specs.Changing.{HasUniqueOwners}
use Rattle.cfb_mini.specs.Views.{allocator_of, directory_of, mini_fat_of}
use Rattle.cfb_mini.specs.declared.mini_allocator.MiniAllocator.{MiniAllocator}
use Rattle.cfb_ownership.specs.Held.{OwnersHoldTree}
use Rattle.cfb_ownership.specs.LiveFile.{LiveFile}
use Rattle.cfb_ownership.specs.Owners.{Owners}

module _ {F : Type 0} {g : Ghosts F} where
  -- what is seen of it
  unfoldable pub live_of : MiniAllocator F g → LiveFile
  live_of it = record {
    version = version_of (allocator_of it);
    bytes = bytes_of (allocator_of it);
    count = count_of (sectors_of (allocator_of it));
    fat = fat_of (allocator_of it);
    fat_sectors = fat_sectors_of (allocator_of it);
    difat_sectors = difat_sectors_of (allocator_of it);
    mini_fat = mini_fat_of it;
    entries = entries_held (directory_of it);
  }

  -- THE LIVE FILE MEANS THE TREE: nothing has failed, its tables can be changed, memory is that of the bytes of an honest medium,
  -- entries can be written as they are, and each stream of the tree has its bytes in sectors or mini sectors that nothing else owns
  pub record LiveFileMeansTree (letters : CaseTable) (it : MiniAllocator F g) (tree : Tree) : Type 0 where
    pub live : has_failed_here (allocator_of it) ≡ false
    pub orderly : IsTrue (orderly_of (allocator_of it))
    pub who : Owners
    pub owners : HasUniqueOwners it who.sectors
    pub sizes : SizesFit (version_of (allocator_of it)) (entries_held (directory_of it))
    pub held : OwnersHoldTree (live_of it) who letters tree
