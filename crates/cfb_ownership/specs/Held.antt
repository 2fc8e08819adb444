-- A live file holds a tree: each stream of the tree has its bytes in what its entry owns.
use Rattle.std.specs.Prelude.{◌≡◌, ℕ, ◌+◌, ◌*◌, ◌<◌, ◌≤◌, List, [], ◌∷◌, ◌++◌, length, take, slice_get, slice_range, nat_eq, IfSome}
use Rattle.std.specs.List.{flat_map, IsDistinct}
use Rattle.cfb_sectors.specs.Header.{mini_cutoff}
use Rattle.cfb_sectors.specs.Sectors.{joined, places}
use Rattle.cfb_chains.specs.Changes.{IsNotIn}
use Rattle.cfb_tree.specs.Names.{CaseTable}
use Rattle.cfb_tree.specs.Tree.{nothing, storage, stream, Content, IsOrdered, Tree}
use Rattle.cfb_tree.specs.Directory.{kind_stream, Entry, IsStorage, IsStream, Siblings}
use Rattle.cfb_spec.specs.Sound.{LieInFile}
use Rattle.cfb_ownership.specs.Owners.{first_of, mini_stream_owner, stream_owner, Owners, OwnsNothing}
use Rattle.cfb_ownership.specs.LiveFile.{LiveFile}
use Rattle.cfb_ownership.specs.LiveInvariant.{LiveFileInvariant}

-- the bytes of some mini sectors, joined ([MS-CFB] 2.4)
abbrev pub mini_joined : LiveFile → Owners → List ℕ → List ℕ
mini_joined s who minis = flat_map (λ n. slice_range (joined s.version s.bytes (who.sectors mini_stream_owner)) (64 * n) (64 * n + 64)) minis

-- their places in the file
abbrev pub mini_places_of : LiveFile → Owners → List ℕ → List ℕ
mini_places_of s who minis = flat_map (λ n. slice_range (places s.version (who.sectors mini_stream_owner)) (64 * n) (64 * n + 64)) minis

-- the entry's chain is that of these numbers, and the stream is the first of their bytes, which lie in the file
pub record EntryLiesIn (file : List ℕ) (e : Entry) (ids bytes all content : List ℕ) : Type 0 where
  pub start : e.start ≡ first_of ids
  pub content_is : content ≡ take e.size bytes
  pub whole : length content ≡ e.size
  pub there : LieInFile file e all

-- the stream of entry `id` has these bytes: below 4096 they lie in its mini sectors alone, else in its sectors alone
pub record OwnerHasStream (s : LiveFile) (who : Owners) (id : ℕ) (e : Entry) (content : List ℕ) : Type 0 where
  pub short : e.size < mini_cutoff → (who.sectors (stream_owner id) ≡ [])
      × EntryLiesIn s.bytes e (who.minis (stream_owner id)) (mini_joined s who (who.minis (stream_owner id))) (mini_places_of s who (who.minis (stream_owner id))) content
  pub long : mini_cutoff ≤ e.size → (who.minis (stream_owner id) ≡ [])
      × EntryLiesIn s.bytes e (who.sectors (stream_owner id)) (joined s.version s.bytes (who.sectors (stream_owner id))) (places s.version (who.sectors (stream_owner id))) content

-- the entries `ids` are the content, and `Reads id e bytes` says that the stream of entry `id`, which is e, has these bytes
abbrev pub HoldsAt : List Entry → (ℕ → Entry → List ℕ → Type 0) → List ℕ → Content → List ℕ → Type 0
HoldsAt directory Reads ids nothing all = (ids ≡ []) × (all ≡ [])
HoldsAt directory Reads ids (stream name state_bits bytes later) all =
    (e : Entry) × (id : ℕ) × (others : List ℕ) × (rest : List ℕ) × (ids ≡ id ∷ others) × (all ≡ id ∷ rest)
    × IsStream directory id e name state_bits × Reads id e bytes × HoldsAt directory Reads others later rest
HoldsAt directory Reads ids (storage name facts inside later) all =
    (e : Entry) × (id : ℕ) × (others : List ℕ) × (children : List ℕ) × (within : List ℕ) × (rest : List ℕ)
    × (ids ≡ id ∷ others) × (all ≡ id ∷ within ++ rest) × IsStorage directory id e name facts
    × Siblings directory e.child children × HoldsAt directory Reads children inside within
    × HoldsAt directory Reads others later rest

-- entry `id` is a stream among these
abbrev pub IsStreamAmong : List Entry → List ℕ → ℕ → Type 0
IsStreamAmong directory ids id = (IsNotIn ids id → ⊥) × IfSome (slice_get directory id) (λ e. e.kind ≡ kind_stream)

-- THE LIVE FILE HOLDS THE TREE, and what is no stream of it owns nothing
pub record OwnersHoldTree (s : LiveFile) (who : Owners) (letters : CaseTable) (tree : Tree) : Type 0 where
  pub root : Entry
  pub kept : LiveFileInvariant s who root
  pub facts : root.facts ≡ tree.root
  pub children : List ℕ
  pub ids : List ℕ
  pub siblings : Siblings s.entries root.child children
  pub holds : HoldsAt s.entries (OwnerHasStream s who) children tree.content ids
  pub once : IsDistinct nat_eq (0 ∷ ids)
  pub ordered : IsOrdered letters tree.content
  pub unused : (id : ℕ) → (IsStreamAmong s.entries ids id → ⊥) → OwnsNothing who (stream_owner id)
