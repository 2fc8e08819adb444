-- What a change of the mini FAT's numbers does ([MS-CFB] 2.4).
use Rattle.std.specs.Prelude.{◌≡◌, ℕ, List, [], drop, take}
use Rattle.cfb_medium.specs.declared.medium.ReadMedium.{Ghosts}
use Rattle.cfb_sectors.specs.Sectors.{fat_in, free, sector}
use Rattle.cfb_chains.specs.Changes.{DifferOnlyAt, HaveEntry}
use Rattle.cfb_chains.specs.Grown.{IsChainInTable}
use Rattle.cfb_chains.specs.LinkViews.{ids_of}
use Rattle.cfb_chains.specs.Owned.{ReplacesChain}
use Rattle.cfb_fat.specs.Seeing.{seen_of}
use Rattle.cfb_fat.specs.Tables.{bytes_of, version_of}
use Rattle.cfb_fat.specs.declared.allocator.Allocator.{Allocator}
use Rattle.cfb_chain_io.specs.ChainEffects.{HasDataChain}
use Rattle.cfb_mini.specs.NumberViews.{numbers_of}
use Rattle.cfb_mini.specs.declared.mini_fat.MiniFat.{MiniFat}

-- the mini FAT and the mini stream lie in the sectors in which they lay
pub record LiesSo (before after : MiniFat) : Type 0 where
  pub links : after.links ≡ before.links
  pub stream : after.stream ≡ before.stream

module _ {F : Type 0} {g : Ghosts F} where
  -- At most these mini sectors' numbers are changed, in the file as in memory. The mini FAT's sectors are those that they were.
  pub record Enters (minis : List ℕ) (old new : Allocator F g) (before after : MiniFat) : Type 0 where
    pub chain : HasDataChain new before.links
    pub becomes : ReplacesChain (sector (version_of old)) [] (ids_of before.links) [] (ids_of before.links) (seen_of old) (seen_of new)
    pub differ : DifferOnlyAt minis (numbers_of before.numbers) (numbers_of after.numbers)
    pub same : numbers_of before.numbers ≡ fat_in (version_of old) (bytes_of old) (ids_of before.links)
        → numbers_of after.numbers ≡ fat_in (version_of new) (bytes_of new) (ids_of before.links)

  -- The mini chain keeps so many mini sectors, those at its front, and the numbers of the others are "free". The mini FAT's sectors
  -- are those that they were.
  pub record CutsMinis (count : ℕ) (old new : Allocator F g) (before after : MiniFat) (minis later : List ℕ) : Type 0 where
    pub enters : Enters minis old new before after
    pub minis_are : later ≡ take count minis
    pub freed : HaveEntry free (numbers_of after.numbers) (drop count minis)
    pub linked : IsChainInTable (numbers_of before.numbers) minis → IsChainInTable (numbers_of after.numbers) later
