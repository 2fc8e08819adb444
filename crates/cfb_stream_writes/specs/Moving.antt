-- What a live file is while the sectors of one of its streams are in change: all others stay.
use Rattle.std.specs.Prelude.{◌≡◌, ℕ, ◌+◌, ◌<◌, ◌≤◌, ◌⊎◌, List, [], length, slice_get, slice_set, take, Some}
use Rattle.std.specs.List.{AllByRecursion}
use Rattle.cfb_chains.specs.LinkViews.{ids_of, links_version}
use Rattle.cfb_chains.specs.declared.links.Links.{Links}
use Rattle.cfb_directory.specs.Views.{entries_held}
use Rattle.cfb_tree_edits.specs.Freeing.{HasFileInvariant}
use Rattle.cfb_tree_edits.specs.Live.{live_of}
use Rattle.cfb_tree_edits.specs.Orphans.{StaysTidy}
use Rattle.cfb_fat.specs.Tables.{bytes_of, version_of}
use Rattle.cfb_medium.specs.Bytes.{overwritten}
use Rattle.cfb_medium.specs.Versions.{stream_len_mask}
use Rattle.cfb_medium.specs.declared.medium.ReadMedium.{Ghosts}
use Rattle.cfb_mini.specs.Changing.{ChangesDirectory, HasUniqueOwners}
use Rattle.cfb_mini.specs.LinkViews.{minis_of}
use Rattle.cfb_mini.specs.Views.{allocator_of, directory_of}
use Rattle.cfb_mini.specs.declared.links.MiniLinks.{MiniLinks}
use Rattle.cfb_mini.specs.declared.mini_allocator.MiniAllocator.{MiniAllocator}
use Rattle.cfb_ownership.specs.Held.{mini_joined, mini_places_of, OwnerHasStream}
use Rattle.cfb_ownership.specs.LiveFile.{LiveFile}
use Rattle.cfb_ownership.specs.Owners.{first_of, mini_stream_owner, stream_owner, Owners}
use Rattle.cfb_sectors.specs.Header.{mini_cutoff}
use Rattle.cfb_sectors.specs.Sectors.{joined, places}
use Rattle.cfb_tree.specs.Directory.{Entry}
use Rattle.cfb_stream_writes.specs.Streams.{resized}

-- the same version, at least as many bytes, and all streams but this owner's have the sectors and the mini sectors that they had,
-- with their bytes
pub record CarriesOthers (key : ℕ) (s t : LiveFile) (who now : Owners) : Type 0 where
  pub version : t.version ≡ s.version
  pub longer : length s.bytes ≤ length t.bytes
  pub sectors : (k : ℕ) → mini_stream_owner < k → (k ≡ key → ⊥) → now.sectors k ≡ who.sectors k
  pub minis : (k : ℕ) → (k ≡ key → ⊥) → now.minis k ≡ who.minis k
  pub joined : (k : ℕ) → mini_stream_owner < k → (k ≡ key → ⊥) → joined s.version t.bytes (who.sectors k) ≡ joined s.version s.bytes (who.sectors k)
  pub mini_joined : (k : ℕ) → (k ≡ key → ⊥) → mini_joined t now (who.minis k) ≡ mini_joined s who (who.minis k)
  pub mini_places : (k : ℕ) → (k ≡ key → ⊥) → mini_places_of t now (who.minis k) ≡ mini_places_of s who (who.minis k)

-- the entries are those that they were, or the root alone tells of another place of the mini stream ([MS-CFB] 2.6.2)
abbrev pub MovesRoot : List Entry → List Entry → Type 0
MovesRoot old new = (new ≡ old)
    ⊎ ((root : Entry) × (start : ℕ) × (size : ℕ) × (slice_get old 0 ≡ Some root) × (new ≡ slice_set old 0 (record root { start = start; size = size })))

module _ {F : Type 0} {g : Ghosts F} where
  -- the file stands, all streams but that of entry `id` have what they had, and there are no more strays
  pub record ReplacesStreamChain (id : ℕ) (old new : MiniAllocator F g) (who : Owners) : Type 0 where
    pub now : Owners
    pub stands : HasFileInvariant new now
    pub carries : CarriesOthers (stream_owner id) (live_of old) (live_of new) who now
    pub entries : MovesRoot (entries_held (directory_of old)) (entries_held (directory_of new))
    pub strays : StaysTidy old new who now

  -- entry `id` tells that its stream begins there and has so many bytes, which fit into it; all other entries stay, and all that is
  -- owned ([MS-CFB] 2.6.1)
  pub record Places (id start size : ℕ) (old new : MiniAllocator F g) : Type 0 where
    pub entry : Entry
    pub found : slice_get (entries_held (directory_of old)) id ≡ Some entry
    pub fits : size ≤ stream_len_mask (version_of (allocator_of old))
    pub set : entries_held (directory_of new) ≡ slice_set (entries_held (directory_of old)) id (record entry { start = start; size = size })
    pub changes : (own : ℕ → List ℕ) → HasUniqueOwners old own → (id ≡ 0 → ⊥) → ChangesDirectory [] old new own

  -- the sectors of the stream of entry `id` became these, with what was free; all else that is owned stays, with the bytes of all
  -- mini sectors and their places, and the entries
  pub record MovesLong (id : ℕ) (later : List ℕ) (old new : MiniAllocator F g) (who : Owners) : Type 0 where
    pub moves : ReplacesStreamChain id old new who
    pub mine : moves.now.sectors (stream_owner id) ≡ later
    pub minis : moves.now.minis (stream_owner id) ≡ who.minis (stream_owner id)
    pub mini_joined : (ids : List ℕ) → mini_joined (live_of new) moves.now ids ≡ mini_joined (live_of old) who ids
    pub mini_places : (ids : List ℕ) → mini_places_of (live_of new) moves.now ids ≡ mini_places_of (live_of old) who ids
    pub entries : entries_held (directory_of new) ≡ entries_held (directory_of old)

  -- the mini sectors of the stream of entry `id` became these, with what was free, and it keeps its sectors
  pub record MovesShort (id : ℕ) (later : List ℕ) (old new : MiniAllocator F g) (who : Owners) : Type 0 where
    pub moves : ReplacesStreamChain id old new who
    pub mine : moves.now.minis (stream_owner id) ≡ later
    pub sectors : moves.now.sectors (stream_owner id) ≡ who.sectors (stream_owner id)

  -- so they did, and the first of their bytes are these, which lie in the file
  pub record TakesLong (id : ℕ) (later content : List ℕ) (old new : MiniAllocator F g) (who : Owners) : Type 0 where
    pub long : MovesLong id later old new who
    pub content_is : content ≡ take (length content) (joined (version_of (allocator_of new)) (bytes_of (allocator_of new)) later)
    pub there : AllByRecursion (λ p. p < length (bytes_of (allocator_of new))) (take (length content) (places (version_of (allocator_of new)) later))

  -- so the mini sectors did, and the first of their bytes are these, which lie in the file
  pub record TakesShort (id : ℕ) (later content : List ℕ) (old new : MiniAllocator F g) (who : Owners) : Type 0 where
    pub short : MovesShort id later old new who
    pub content_is : content ≡ take (length content) (mini_joined (live_of new) short.moves.now later)
    pub there : AllByRecursion (λ p. p < length (bytes_of (allocator_of new))) (take (length content) (mini_places_of (live_of new) short.moves.now later))

  -- where its entry tells of this start and of as many bytes, the stream of entry `id` has these bytes then; all other streams have
  -- what they had
  pub record Houses (id start : ℕ) (content : List ℕ) (old new : MiniAllocator F g) (who : Owners) : Type 0 where
    pub moves : ReplacesStreamChain id old new who
    pub has : (e : Entry) → e.start ≡ start → e.size ≡ length content → OwnerHasStream (live_of new) moves.now id e content

  -- no stream that stands has the sectors of these links
  abbrev pub IsNoChain : Links → MiniAllocator F g → Type 0
  IsNoChain links it = (who : Owners) (id : ℕ) → HasFileInvariant it who → who.sectors (stream_owner id) ≡ ids_of links → links_version links ≡ version_of (allocator_of it) → ⊥

  -- a long stream of `size` bytes in the sectors `before` has then its first bytes, `len` with zeros behind them, in `after`
  abbrev pub Stretches : ℕ → ℕ → MiniAllocator F g → MiniAllocator F g → Links → Links → Type 0
  Stretches size len old new before after = (who : Owners) (id : ℕ) (e : Entry) (content : List ℕ) → HasFileInvariant old who → OwnerHasStream (live_of old) who id e content
      → e.size ≡ size → mini_cutoff ≤ size → mini_cutoff ≤ len → who.sectors (stream_owner id) ≡ ids_of before → links_version before ≡ version_of (allocator_of old)
      → (it : Houses id (first_of (ids_of after)) (resized len content) old new who) × (it.moves.now.sectors (stream_owner id) ≡ ids_of after)

  -- a long stream of `size` bytes in the sectors `before` has then these bytes from a place on to its end, in `after`
  abbrev pub Outgrows : ℕ → ℕ → List ℕ → MiniAllocator F g → MiniAllocator F g → Links → Links → Type 0
  Outgrows size at bytes old new before after = (who : Owners) (id : ℕ) (e : Entry) (content : List ℕ) → HasFileInvariant old who → OwnerHasStream (live_of old) who id e content
      → e.size ≡ size → mini_cutoff ≤ size → who.sectors (stream_owner id) ≡ ids_of before → links_version before ≡ version_of (allocator_of old)
      → (it : Houses id (first_of (ids_of after)) (overwritten (resized (at + length bytes) content) at bytes) old new who) × (it.moves.now.sectors (stream_owner id) ≡ ids_of after)

  -- a short stream of `size` bytes in the mini sectors `before` has then its first bytes, `len` with zeros behind them, in `after`
  abbrev pub StretchesShort : ℕ → ℕ → MiniAllocator F g → MiniAllocator F g → MiniLinks → MiniLinks → Type 0
  StretchesShort size len old new before after = (who : Owners) (id : ℕ) (e : Entry) (content : List ℕ) → HasFileInvariant old who → OwnerHasStream (live_of old) who id e content
      → e.size ≡ size → size < mini_cutoff → len < mini_cutoff → who.minis (stream_owner id) ≡ minis_of before
      → (it : Houses id (first_of (minis_of after)) (resized len content) old new who) × (it.moves.now.minis (stream_owner id) ≡ minis_of after)

  -- no stream that stands has the mini sectors of these links
  abbrev pub IsNoMiniChain : MiniLinks → MiniAllocator F g → Type 0
  IsNoMiniChain links it = (who : Owners) (id : ℕ) → HasFileInvariant it who → who.minis (stream_owner id) ≡ minis_of links → ⊥
