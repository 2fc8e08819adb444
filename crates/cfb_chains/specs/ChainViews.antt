-- What a `Chain` shows: the layer behind it, its sectors, and the position in their bytes.
use Rattle.std.specs.Prelude.{◌≡◌, ℕ, List}
use Rattle.cfb_medium.specs.declared.version.Version.{Version}
use Rattle.cfb_sectors.specs.declared.initial.SectorInit.{SectorInit}
use Rattle.cfb_sectors.specs.declared.sector.HasSectors.{Ghosts}
use Rattle.cfb_chains.specs.declared.chain.Chain.{Chain}
use Rattle.cfb_chains.specs.declared.links.Links.{Links}
use Rattle.cfb_chains.specs.LinkViews.{ids_of, links_version}

module _ {H : Type 0} {g : Ghosts H} where
  abbrev pub holder_of : Chain H g → H
  holder_of it = it.holder.now

  abbrev pub version_of : Chain H g → Version
  version_of it = links_version it.links.now

  abbrev pub links_of : Chain H g → Links
  links_of it = it.links.now

  abbrev pub sectors_of : Chain H g → List ℕ
  sectors_of it = ids_of it.links.now

  abbrev pub position_of : Chain H g → ℕ
  position_of it = it.position

  -- what its new sectors hold
  abbrev pub init_of : Chain H g → SectorInit
  init_of it = it.init

  -- the same chain, lent by the same layer and links
  pub record IsSameChain (old new : Chain H g) : Type 0 where
    pub holder : new.holder.ghost_name ≡ old.holder.ghost_name
    pub links : new.links.ghost_name ≡ old.links.ghost_name
    pub version : version_of new ≡ version_of old
    pub init : init_of new ≡ init_of old
    pub sectors : sectors_of new ≡ sectors_of old

  -- the same but for its sectors and its position
  pub record IsSameBut (old new : Chain H g) : Type 0 where
    pub holder : new.holder.ghost_name ≡ old.holder.ghost_name
    pub links : new.links.ghost_name ≡ old.links.ghost_name
    pub version : version_of new ≡ version_of old
    pub init : init_of new ≡ init_of old

  -- the same at the same position but for its sectors
  pub record IsSameButSectors (old new : Chain H g) : Type 0 where
    pub same : IsSameBut old new
    pub position : position_of new ≡ position_of old
