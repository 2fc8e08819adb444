-- What a `MiniChain` shows: the layer behind it, its mini sectors, and the position in their bytes.
use Rattle.std.specs.Prelude.{◌≡◌, ℕ, ◌*◌, List, length, IsTrue}
use Rattle.cfb_medium.specs.declared.medium.ReadMedium.{Ghosts}
use Rattle.cfb_fat.specs.Tables.{is_honest}
use Rattle.cfb_fat.specs.declared.allocator.Allocator.{Allocator}
use Rattle.cfb_mini.specs.Changing.{HasUniqueOwners}
use Rattle.cfb_mini.specs.LinkViews.{minis_of}
use Rattle.cfb_mini.specs.Minis.{AreInside, IsMiniChain}
use Rattle.cfb_mini.specs.Views.{allocator_of, mini_content_of, mini_fat_of, mini_stream_len, MiniMatchesBytes}
use Rattle.cfb_mini.specs.declared.links.MiniLinks.{MiniLinks}
use Rattle.cfb_mini.specs.declared.mini_allocator.MiniAllocator.{MiniAllocator}
use Rattle.cfb_mini_chains.specs.declared.chain.MiniChain.{MiniChain}

module _ {F : Type 0} {g : Ghosts F} where
  abbrev pub mini_of : MiniChain F g → MiniAllocator F g
  mini_of it = it.mini.now

  -- the layer below that
  abbrev pub allocator_under : MiniChain F g → Allocator F g
  allocator_under it = allocator_of it.mini.now

  abbrev pub links_of : MiniChain F g → MiniLinks
  links_of it = it.links.now

  -- its mini sectors, in order
  abbrev pub mini_sectors_of : MiniChain F g → List ℕ
  mini_sectors_of it = minis_of it.links.now

  abbrev pub position_of : MiniChain F g → ℕ
  position_of it = it.position

  -- the bytes that its mini sectors have
  abbrev pub len_of : MiniChain F g → ℕ
  len_of it = 64 * length (mini_sectors_of it)

  -- its bytes: those of its mini sectors, joined ([MS-CFB] 2.4)
  abbrev pub content_of : MiniChain F g → List ℕ
  content_of it = mini_content_of (mini_of it) (links_of it)

  -- memory is that of an honest file's bytes, and the mini stream has each of its mini sectors
  pub record IsReadable (it : MiniChain F g) : Type 0 where
    pub honest : IsTrue (is_honest (allocator_under it))
    pub memory : MiniMatchesBytes (mini_of it)
    pub inside : AreInside (mini_stream_len (mini_of it)) (mini_sectors_of it)

  -- of the sectors each has one owner at most, and the mini FAT has the whole chain, in the mini stream
  pub record HasOwnedMiniChain (it : MiniChain F g) (own : ℕ → List ℕ) : Type 0 where
    pub owners : HasUniqueOwners (mini_of it) own
    pub chain : IsMiniChain (mini_fat_of (mini_of it)) (mini_stream_len (mini_of it)) (mini_sectors_of it)

  -- the same chain, lent by the same layer and links
  pub record IsSameMiniChain (old new : MiniChain F g) : Type 0 where
    pub mini : new.mini.ghost_name ≡ old.mini.ghost_name
    pub links : new.links.ghost_name ≡ old.links.ghost_name
