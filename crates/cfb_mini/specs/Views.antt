-- What a `MiniAllocator` shows: the directory below it, the mini FAT, and the mini stream.
use Rattle.std.specs.Prelude.{◌≡◌, ℕ, List, slice_get, slice_index_or, Some}
use Rattle.cfb_medium.specs.declared.medium.ReadMedium.{Ghosts}
use Rattle.cfb_sectors.specs.Sectors.{end_of_chain, joined}
use Rattle.cfb_chains.specs.LinkViews.{ids_of}
use Rattle.cfb_fat.specs.Tables.{bytes_of, version_of}
use Rattle.cfb_fat.specs.declared.allocator.Allocator.{Allocator}
use Rattle.cfb_chain_io.specs.ChainEffects.{len_of}
use Rattle.cfb_tree.specs.Directory.{Entry}
use Rattle.cfb_directory.specs.Views as directory
use Rattle.cfb_directory.specs.Views.{entries_held, DirectoryMatchesBytes}
use Rattle.cfb_directory.specs.declared.directory.Directory.{Directory}
use Rattle.cfb_mini.specs.LinkViews.{minis_of}
use Rattle.cfb_mini.specs.Minis.{mini_joined}
use Rattle.cfb_mini.specs.NumberViews.{numbers_of}
use Rattle.cfb_mini.specs.Layers.{IsOver}
use Rattle.cfb_mini.specs.declared.links.MiniLinks.{MiniLinks}
use Rattle.cfb_mini.specs.declared.mini_allocator.MiniAllocator.{MiniAllocator}

module _ {F : Type 0} {g : Ghosts F} where
  abbrev pub directory_of : MiniAllocator F g → Directory F g
  directory_of it = it.directory

  -- the layer below the directory
  abbrev pub allocator_of : MiniAllocator F g → Allocator F g
  allocator_of it = directory.allocator_of it.directory

  -- the sectors that hold the mini FAT, in the order of their chain
  abbrev pub mini_fat_ids : MiniAllocator F g → List ℕ
  mini_fat_ids it = ids_of it.mini_fat.links

  -- the mini FAT, a number for each mini sector ([MS-CFB] 2.4)
  abbrev pub mini_fat_of : MiniAllocator F g → List ℕ
  mini_fat_of it = numbers_of it.mini_fat.numbers

  -- the sectors that hold the mini stream, in the order of their chain
  abbrev pub mini_stream_ids : MiniAllocator F g → List ℕ
  mini_stream_ids it = ids_of it.mini_fat.stream

  -- so many bytes the mini stream has
  abbrev pub mini_stream_len : MiniAllocator F g → ℕ
  mini_stream_len it = len_of it.mini_fat.stream

  -- the mini stream's bytes: those of its sectors, joined ([MS-CFB] 2.6.2)
  abbrev pub mini_stream_of : MiniAllocator F g → List ℕ
  mini_stream_of it = joined (version_of (allocator_of it)) (bytes_of (allocator_of it)) (mini_stream_ids it)

  -- a mini chain's bytes: those of its mini sectors, joined
  abbrev pub mini_content_of : MiniAllocator F g → MiniLinks → List ℕ
  mini_content_of it links = mini_joined (mini_stream_of it) (minis_of links)

  -- memory is that of the bytes: the directory's is, the mini FAT's, and the root's entry says where the mini stream is
  pub record MiniMatchesBytes (it : MiniAllocator F g) : Type 0 where
    pub directory : DirectoryMatchesBytes (directory_of it)
    pub over : IsOver (allocator_of it) it.mini_fat
    pub stream_at : (root : Entry) → slice_get (entries_held (directory_of it)) 0 ≡ Some root → root.start ≡ slice_index_or (mini_stream_ids it) 0 end_of_chain

  -- nothing but reads and flushes was done
  pub record OnlyReadsMini (old new : MiniAllocator F g) : Type 0 where
    pub directory : directory.OnlyReadsDirectory (directory_of old) (directory_of new)
    pub mini_fat_ids : mini_fat_ids new ≡ mini_fat_ids old
    pub mini_fat : mini_fat_of new ≡ mini_fat_of old
    pub mini_stream_ids : mini_stream_ids new ≡ mini_stream_ids old
    pub kept : MiniMatchesBytes old → MiniMatchesBytes new

  -- the memory is what it was, and that of the bytes where it was so
  pub record MiniKeepsMemory (old new : MiniAllocator F g) : Type 0 where
    pub directory : directory.DirectoryKeepsMemory (directory_of old) (directory_of new)
    pub mini_fat_ids : mini_fat_ids new ≡ mini_fat_ids old
    pub mini_fat : mini_fat_of new ≡ mini_fat_of old
    pub mini_stream_ids : mini_stream_ids new ≡ mini_stream_ids old
    pub kept : MiniMatchesBytes old → MiniMatchesBytes new
