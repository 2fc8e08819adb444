-- Chains that are copied to another file ([MS-CFB] 2.3).
use Rattle.std.specs.Prelude.{◌≡◌, ◌⊎◌, ℕ, List, [], ◌++◌}
use Rattle.cfb_medium.specs.Calls.{IsFaultOrInvalidInputIf}
use Rattle.cfb_medium.specs.declared.error.Error.{Error}
use Rattle.cfb_medium.specs.declared.error.Error.TheVariants.{Full}
use Rattle.cfb_medium.specs.declared.medium.ReadMedium.{Ghosts}
use Rattle.cfb_sectors.specs.Sectors.{sector}
use Rattle.cfb_chains.specs.Behind.{AreWhole}
use Rattle.cfb_chains.specs.ChainCalls.{IsInvalidPlace}
use Rattle.cfb_chains.specs.LinkViews.{ids_of}
use Rattle.cfb_chains.specs.Owned.{ReplacesChain}
use Rattle.cfb_chains.specs.declared.links.Links.{Links}
use Rattle.cfb_fat.specs.Seeing.{seen_of}
use Rattle.cfb_fat.specs.Tables.{bytes_of, version_of, IsJustifiedBySectors}
use Rattle.cfb_fat.specs.declared.allocator.Allocator.{Allocator}
use Rattle.cfb_chain_io.specs.ChainEffects.{content_of, HasDataChain}

-- a fault, numbers of sectors are missing, or a file hasn't its chain
abbrev pub IsCopyError : Error → Type 0
IsCopyError e = IsFaultOrInvalidInputIf ⊥ e ⊎ IsInvalidPlace e ⊎ (e ≡ Full)

module _ {F : Type 0} {g : Ghosts F} {T : Type 0} {h : Ghosts T} where
  -- the error has its cause in one of two files
  abbrev pub IsJustifiedByEither : Allocator F g → Allocator F g → Allocator T h → Allocator T h → Error → Type 0
  IsJustifiedByEither source read target written e = IsJustifiedBySectors source read e ⊎ IsJustifiedBySectors target written e

module _ {F : Type 0} {g : Ghosts F} where
  -- the chain took in sectors behind those that it had, which were in no use and lie in the file whole, and holds these bytes
  pub record CopiesChain (content : List ℕ) (old new : Allocator F g) (before after : Links) : Type 0 where
    pub more : List ℕ
    pub sectors : ids_of after ≡ ids_of before ++ more
    pub chain : HasDataChain new after
    pub becomes : ReplacesChain (sector (version_of old)) [] (ids_of before) more (ids_of after) (seen_of old) (seen_of new)
    pub content_is : content_of new after ≡ content
    pub whole : AreWhole (version_of old) (bytes_of new) more
