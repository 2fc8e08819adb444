-- What a write in a mini chain does to the mini stream ([MS-CFB] 2.4).
use Rattle.std.specs.Prelude.{◌≡◌, ℕ, ◌+◌, ◌<◌, ◌≤◌, List, [], length}
use Rattle.cfb_medium.specs.Bytes.{overwritten}
use Rattle.cfb_medium.specs.declared.medium.ReadMedium.{Ghosts}
use Rattle.cfb_sectors.specs.Sectors.{sector}
use Rattle.cfb_chains.specs.Changes.{IsNotIn}
use Rattle.cfb_chains.specs.LinkViews.{ids_of}
use Rattle.cfb_chains.specs.Owned.{ReplacesChain}
use Rattle.cfb_chains.specs.declared.links.Links.{Links}
use Rattle.cfb_fat.specs.Seeing.{seen_of}
use Rattle.cfb_fat.specs.Tables.{bytes_of, version_of}
use Rattle.cfb_fat.specs.declared.allocator.Allocator.{Allocator}
use Rattle.cfb_chain_io.specs.ChainEffects.{content_of, place_of, HasDataChain}
use Rattle.cfb_mini.specs.Minis.{mini_joined, mini_place, mini_sector}

module _ {F : Type 0} {g : Ghosts F} where
  -- In the mini stream of these sectors, these bytes lie over those of these mini sectors from a place on, and in the file. All other
  -- mini sectors are as they were, and the mini stream's sectors are those that they were.
  pub record WritesMinis (at : ℕ) (bytes : List ℕ) (old new : Allocator F g) (stream : Links) (minis : List ℕ) : Type 0 where
    pub chain : HasDataChain new stream
    pub becomes : ReplacesChain (sector (version_of old)) [] (ids_of stream) [] (ids_of stream) (seen_of old) (seen_of new)
    pub content : mini_joined (content_of new stream) minis ≡ overwritten (mini_joined (content_of old stream) minis) at bytes
    pub others : (n : ℕ) → IsNotIn minis n → mini_sector (content_of new stream) n ≡ mini_sector (content_of old stream) n
    pub there : (k : ℕ) → at ≤ k → k < at + length bytes → place_of (version_of old) (ids_of stream) (mini_place minis k) < length (bytes_of new)
