-- Where the bytes of a stream lie ([MS-CFB] 2.4, 2.6.3).
use Rattle.std.specs.Prelude.{◌≡◌, ℕ, ◌*◌, ◌<◌, ◌≤◌, List, length}
use Rattle.cfb_chains.specs.LinkViews.{ids_of, links_version}
use Rattle.cfb_fat.specs.Tables.{fat_of, version_of}
use Rattle.cfb_medium.specs.Versions.{sector_len}
use Rattle.cfb_medium.specs.declared.medium.ReadMedium.{Ghosts}
use Rattle.cfb_mini.specs.LinkViews.{minis_of}
use Rattle.cfb_mini.specs.Minis.{AreInside}
use Rattle.cfb_mini.specs.Views.{allocator_of, mini_content_of, mini_fat_of, mini_stream_len, MiniMatchesBytes}
use Rattle.cfb_mini.specs.declared.mini_allocator.MiniAllocator.{MiniAllocator}
use Rattle.cfb_chain_io.specs.ChainEffects.{content_of, HasFatChain}
use Rattle.cfb_sectors.specs.Header.{mini_cutoff}
use Rattle.cfb_sectors.specs.Sectors.{Chain}
use Rattle.cfb_stream_reads.specs.declared.opening.StreamLinks.{StreamLinks}
use Rattle.cfb_stream_reads.specs.declared.opening.StreamLinks.TheVariants.{Short, Long}

-- the sectors, in the order of their chain: mini sectors of a short stream, and else of the file
abbrev pub sectors_in : StreamLinks → List ℕ
sectors_in (Short minis) = minis_of minis
sectors_in (Long links) = ids_of links

-- so many bytes the sectors have
abbrev pub len_in : StreamLinks → ℕ
len_in (Short minis) = 64 * length (minis_of minis)
len_in (Long links) = length (ids_of links) * sector_len (links_version links)

module _ {F : Type 0} {g : Ghosts F} where
  -- a stream of so many bytes that begins there lies in these sectors: below 4096 bytes they are the mini FAT's chain, which the
  -- mini stream has, and else the FAT's; they have room for its bytes ([MS-CFB] 2.4, 2.6.3)
  pub record StreamLiesIn (it : MiniAllocator F g) (start size : ℕ) (sectors : List ℕ) : Type 0 where
    pub short : size < mini_cutoff → Chain (mini_fat_of it) start sectors × AreInside (mini_stream_len it) sectors × (size ≤ 64 * length sectors)
    pub long : mini_cutoff ≤ size → Chain (fat_of (allocator_of it)) start sectors × (size ≤ length sectors * sector_len (version_of (allocator_of it)))

  -- the links are of the level on which a stream of so many bytes lies
  abbrev pub IsOfLevel : MiniAllocator F g → ℕ → StreamLinks → Type 0
  IsOfLevel it size (Short minis) = size < mini_cutoff
  IsOfLevel it size (Long links) = (mini_cutoff ≤ size) × (links_version links ≡ version_of (allocator_of it))

  -- the bytes of the sectors, joined; the stream's are the first of them
  abbrev pub joined_in : MiniAllocator F g → StreamLinks → List ℕ
  joined_in it (Short minis) = mini_content_of it minis
  joined_in it (Long links) = content_of (allocator_of it) links

  -- the layers have these sectors: the mini stream has each, or the FAT has their chain
  abbrev pub HasSectorsOf : MiniAllocator F g → StreamLinks → Type 0
  HasSectorsOf it (Short minis) = MiniMatchesBytes it × AreInside (mini_stream_len it) (minis_of minis)
  HasSectorsOf it (Long links) = HasFatChain (allocator_of it) links
