-- How the mini FAT becomes longer ([MS-CFB] 2.4).
use Rattle.std.specs.Prelude.{◌≡◌, ℕ, ◌/◌, ◌<◌, ◌⊎◌, List, [], ◌∷◌, ◌++◌, length, replicate, slice_index_or}
use Rattle.cfb_medium.specs.Versions.{sector_len}
use Rattle.cfb_medium.specs.declared.medium.ReadMedium.{Ghosts}
use Rattle.cfb_sectors.specs.Header.{first_mini_fat_sector, mini_fat_sector_count}
use Rattle.cfb_sectors.specs.Sectors.{end_of_chain, fat_in, free, greatest_regular, sector}
use Rattle.cfb_chains.specs.LinkViews.{ids_of}
use Rattle.cfb_chains.specs.Owned.{ReplacesChain}
use Rattle.cfb_fat.specs.Seeing.{seen_of}
use Rattle.cfb_fat.specs.Tables.{bytes_of, version_of}
use Rattle.cfb_fat.specs.Growing.{LacksSectorNumbers}
use Rattle.cfb_fat.specs.declared.allocator.Allocator.{Allocator}
use Rattle.cfb_chain_io.specs.ChainEffects.{HasDataChain}
use Rattle.cfb_mini.specs.NumberViews.{numbers_of}
use Rattle.cfb_mini.specs.declared.mini_fat.MiniFat.{MiniFat}

-- the header tells where the mini FAT of these sectors begins, and how many they are ([MS-CFB] 2.2)
pub record TellsMiniFat (bytes ids : List ℕ) : Type 0 where
  pub first : first_mini_fat_sector bytes ≡ slice_index_or ids 0 end_of_chain
  pub count : mini_fat_sector_count bytes ≡ length ids

-- where the header has these two numbers ([MS-CFB] 2.2)
abbrev pub mini_fat_words : List ℕ
mini_fat_words = 60 ∷ 64 ∷ []

module _ {F : Type 0} {g : Ghosts F} where
  -- The mini FAT took in a sector that was in no use, of "free" numbers, and the header tells of it.
  pub record GrowsTable (old new : Allocator F g) (before after : MiniFat) : Type 0 where
    pub more : List ℕ
    pub sectors : ids_of after.links ≡ ids_of before.links ++ more
    pub chain : HasDataChain new after.links
    pub becomes : ReplacesChain (sector (version_of old)) mini_fat_words (ids_of before.links) more (ids_of after.links) (seen_of old) (seen_of new)
    pub stream : after.stream ≡ before.stream
    pub numbers : numbers_of after.numbers ≡ numbers_of before.numbers ++ replicate (sector_len (version_of old) / 4) free
    pub same : numbers_of before.numbers ≡ fat_in (version_of old) (bytes_of old) (ids_of before.links)
        → numbers_of after.numbers ≡ fat_in (version_of new) (bytes_of new) (ids_of after.links)
    pub told : TellsMiniFat (bytes_of new) (ids_of after.links)

  -- no number of a sector is left for a chain of so many, in the FAT or in the chain
  abbrev pub LacksMore : Allocator F g → ℕ → Type 0
  LacksMore it count = LacksSectorNumbers it 1 ⊎ (greatest_regular < count)
