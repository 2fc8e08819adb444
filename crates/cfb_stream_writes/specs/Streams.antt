-- A stream of a live file, and what a call does to its bytes ([MS-CFB] 2.6.3).
use Rattle.std.specs.Prelude.{◌≡◌, ◌⊎◌, ℕ, ◌+◌, ◌-◌, ◌<◌, ◌≤◌, ◌++◌, List, length, replicate, slice_get, take, Option, Some}
use Rattle.cfb_chains.specs.LinkViews.{ids_of, links_version}
use Rattle.cfb_chains.specs.Positions.{sectors_for}
use Rattle.cfb_directory.specs.Views.{entries_held}
use Rattle.cfb_fat.specs.Growing.{LacksSectorNumbers}
use Rattle.cfb_fat.specs.Tables.{version_of}
use Rattle.cfb_tree_edits.specs.Live.{LiveFileMeansTree}
use Rattle.cfb_tree_edits.specs.Orphans.{StaysTidy}
use Rattle.cfb_medium.specs.declared.medium.ReadMedium.{Ghosts}
use Rattle.cfb_medium.specs.declared.version.Version.{Version}
use Rattle.cfb_mini.specs.Changing.{LacksMiniSectors}
use Rattle.cfb_mini.specs.LinkViews.{minis_of}
use Rattle.cfb_mini.specs.Minis.{minis_for}
use Rattle.cfb_mini.specs.Views.{allocator_of, directory_of}
use Rattle.cfb_mini.specs.declared.mini_allocator.MiniAllocator.{MiniAllocator}
use Rattle.cfb_ownership.specs.Owners.{Owners}
use Rattle.cfb_sectors.specs.Header.{mini_cutoff}
use Rattle.cfb_sectors.specs.Sectors.{greatest_regular}
use Rattle.cfb_siblings.specs.Places.{LeadsTo}
use Rattle.cfb_stream_reads.specs.Streams.{sectors_in, IsOfLevel, StreamLiesIn}
use Rattle.cfb_stream_reads.specs.declared.opening.StreamLinks.{StreamLinks}
use Rattle.cfb_stream_reads.specs.declared.opening.StreamLinks.TheVariants.{Long, Short}
use Rattle.cfb_tree.specs.Changes.{changed, with_bytes}
use Rattle.cfb_tree.specs.Directory.{Entry}
use Rattle.cfb_tree.specs.Names.{CaseTable}
use Rattle.cfb_tree.specs.Objects.{a_stream, object_at}
use Rattle.cfb_tree.specs.Paths.{Path}
use Rattle.cfb_tree.specs.Tree.{Tree}
use Rattle.cfb_stream_writes.specs.Sizes.{minis_of_stream, sectors_of_stream}

-- so many bytes: the first of these, and then zeros
abbrev pub resized : ℕ → List ℕ → List ℕ
resized len content = take len content ++ replicate (len - length content) 0

-- no file has numbers for the sectors of so many bytes ([MS-CFB] 2.2)
abbrev pub IsPastNumbers : Version → ℕ → Type 0
IsPastNumbers version len = greatest_regular + 1 < sectors_for version len

-- mini sectors, of a stream below 4096 bytes
abbrev pub IsShortStream : StreamLinks → Type 0
IsShortStream (Short minis) = Unit {0}
IsShortStream (Long links) = ⊥

-- the same sectors, of the same level
abbrev pub AreAlike : StreamLinks → StreamLinks → Type 0
AreAlike (Short before) (Short after) = minis_of after ≡ minis_of before
AreAlike (Long before) (Long after) = (ids_of after ≡ ids_of before) × (links_version after ≡ links_version before)
AreAlike (Short before) (Long after) = ⊥
AreAlike (Long before) (Short after) = ⊥

module _ {F : Type 0} {g : Ghosts F} where
  -- the live file means the tree, and the path leads to entry `id`: the object there is a stream with these bytes
  pub record IsStreamAt (letters : CaseTable) (it : MiniAllocator F g) (tree : Tree) (path : Path) (id : ℕ) (content : List ℕ) : Type 0 where
    pub means : LiveFileMeansTree letters it tree
    pub leads : LeadsTo letters (entries_held (directory_of it)) 0 path id
    pub name : List ℕ
    pub bits : ℕ
    pub at_path : object_at letters tree path ≡ Some (a_stream name bits content)

  -- the path leads to the stream of entry `id`, in a file with these owners
  pub record IsStreamFound (letters : CaseTable) (it : MiniAllocator F g) (path : Option Path) (tree : Tree) (who : Owners) (id : ℕ) : Type 0 where
    pub names : Path
    pub at_path : path ≡ Some names
    pub content : List ℕ
    pub at : IsStreamAt letters it tree names id content
    pub owners : at.means.who ≡ who

  -- a stream of entry `id` has then the bytes that come of its own by the change, and nothing else of the tree is changed; no sector
  -- and no mini sector is in use without an owner that wasn't so before
  abbrev pub RewritesStreamById : ℕ → (List ℕ → List ℕ) → MiniAllocator F g → MiniAllocator F g → Type 0
  RewritesStreamById id change old new = (letters : CaseTable) (tree : Tree) (path : Path) (content : List ℕ) → (at : IsStreamAt letters old tree path id content)
      → (then : IsStreamAt letters new (changed letters (with_bytes (change content)) path tree) path id (change content)) × StaysTidy old new at.means.who then.means.who

  -- entry `id` is a stream of no tree that is meant
  abbrev pub IsNoStream : ℕ → MiniAllocator F g → Type 0
  IsNoStream id it = (letters : CaseTable) (tree : Tree) (path : Path) (content : List ℕ) → IsStreamAt letters it tree path id content → ⊥

  -- these are the sectors of the stream that entry `id` tells of
  abbrev pub AreLinksOf : ℕ → StreamLinks → MiniAllocator F g → Type 0
  AreLinksOf id links it = (e : Entry) → slice_get (entries_held (directory_of it)) id ≡ Some e → StreamLiesIn it e.start e.size (sectors_in links) × IsOfLevel it e.size links

  -- so `RewritesStreamById` does where these are its sectors, and then those are
  abbrev pub RewritesIn : ℕ → (List ℕ → List ℕ) → StreamLinks → StreamLinks → MiniAllocator F g → MiniAllocator F g → Type 0
  RewritesIn id change before after old new = (letters : CaseTable) (tree : Tree) (path : Path) (content : List ℕ) → (at : IsStreamAt letters old tree path id content) → AreLinksOf id before old
      → (then : IsStreamAt letters new (changed letters (with_bytes (change content)) path tree) path id (change content)) × AreLinksOf id after new × StaysTidy old new at.means.who then.means.who

  -- entry `id` is no stream with these sectors
  abbrev pub HasNoLinks : ℕ → StreamLinks → MiniAllocator F g → Type 0
  HasNoLinks id links it = (letters : CaseTable) (tree : Tree) (path : Path) (content : List ℕ) → IsStreamAt letters it tree path id content → AreLinksOf id links it → ⊥

  -- so many bytes from a place on don't lie in the stream of entry `id` and these sectors
  abbrev pub IsPast : ℕ → StreamLinks → ℕ → ℕ → MiniAllocator F g → Type 0
  IsPast id links at count it = (letters : CaseTable) (tree : Tree) (path : Path) (content : List ℕ) → IsStreamAt letters it tree path id content → AreLinksOf id links it → length content < at + count

  -- Bytes from a place on, which end there, can be written to the stream of entry `id` and these sectors in one go: they begin in it and
  -- end at its end or behind it, and its chain has just the sectors that it needs; or they are all that it has then, 4096 or more.
  abbrev pub CanOutgrow : ℕ → StreamLinks → ℕ → ℕ → MiniAllocator F g → Type 0
  CanOutgrow id (Long links) at end it = (e : Entry) → slice_get (entries_held (directory_of it)) id ≡ Some e → (at ≤ e.size) × (e.size ≤ end) × (length (ids_of links) ≡ sectors_for (links_version links) e.size)
  CanOutgrow id (Short minis) at end it = (at ≡ 0) × (mini_cutoff ≤ end)

  -- numbers of sectors are missing, in the FAT or in a chain, for the further ones that a stream of `size` bytes needs to have `len`,
  -- which are at least 4096 ([MS-CFB] 2.2 to 2.4)
  unfoldable pub LacksSectorsFor : MiniAllocator F g → ℕ → ℕ → Type 0
  LacksSectorsFor it size len = LacksSectorNumbers (allocator_of it) (sectors_for (version_of (allocator_of it)) len - sectors_of_stream (version_of (allocator_of it)) size)
      ⊎ (greatest_regular + 1 < sectors_for (version_of (allocator_of it)) len)

  -- so they are, or below 4096 bytes the further mini sectors that it needs can't be had, where it isn't a short one that gets no longer
  unfoldable pub LacksRoom : MiniAllocator F g → ℕ → ℕ → Type 0
  LacksRoom it size len = ((mini_cutoff ≤ len) × LacksSectorsFor it size len) ⊎ ((len < mini_cutoff) × (size < mini_cutoff → size < len) × LacksMiniSectors (minis_for len - minis_of_stream size) it)

  -- so they are for the stream of entry `id` and these sectors to have `len` bytes
  abbrev pub LacksRoomFor : ℕ → StreamLinks → ℕ → MiniAllocator F g → Type 0
  LacksRoomFor id links len it = (letters : CaseTable) (tree : Tree) (path : Path) (content : List ℕ) → IsStreamAt letters it tree path id content → AreLinksOf id links it → LacksRoom it (length content) len
