-- The mini FAT in memory, over the sectors that hold it and the mini stream.
use Rattle.std.specs.Prelude.{◌≡◌, false, IsTrue}
use Rattle.cfb_medium.specs.declared.medium.ReadMedium.{Ghosts}
use Rattle.cfb_sectors.specs.Sectors.{fat_in}
use Rattle.cfb_chains.specs.Grown.{IsChainInTable}
use Rattle.cfb_chains.specs.LinkViews.{ids_of, links_version}
use Rattle.cfb_fat.specs.Tables.{bytes_of, fat_of, has_failed_here, is_honest, version_of}
use Rattle.cfb_fat.specs.declared.allocator.Allocator.{Allocator}
use Rattle.cfb_mini.specs.NumberViews.{numbers_of}
use Rattle.cfb_mini.specs.declared.mini_fat.MiniFat.{MiniFat}

module _ {F : Type 0} {g : Ghosts F} where
  -- memory is that of the bytes: while nothing failed and the medium is honest the FAT has the chains of the mini FAT's sectors
  -- and of the mini stream's, and the mini FAT is that which its sectors hold ([MS-CFB] 2.4)
  pub record IsOver (it : Allocator F g) (mini : MiniFat) : Type 0 where
    pub version : links_version mini.links ≡ version_of it
    pub stream_version : links_version mini.stream ≡ version_of it
    pub linked : has_failed_here it ≡ false → IsTrue (is_honest it) → IsChainInTable (fat_of it) (ids_of mini.links)
    pub stream_linked : has_failed_here it ≡ false → IsTrue (is_honest it) → IsChainInTable (fat_of it) (ids_of mini.stream)
    pub numbers : has_failed_here it ≡ false → IsTrue (is_honest it) → numbers_of mini.numbers ≡ fat_in (version_of it) (bytes_of it) (ids_of mini.links)
