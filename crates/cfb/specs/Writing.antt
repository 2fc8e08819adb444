-- Streams of a file that are written, by their paths ([MS-CFB] 2.6.3).
use Rattle.std.specs.Prelude.{◌≡◌, ◌⊎◌, ℕ, ◌-◌, ◌^◌, ◌≤◌, min, List, length, true, IfErr, IfOk, Option, Some, Result}
use Rattle.std.specs.Borrow.{Bor}
use Rattle.cfb_chains.specs.ChainCalls.{IsInvalidPlace}
use Rattle.cfb_fat.specs.Calls.{FatErrorContract}
use Rattle.cfb_fat.specs.Tables.{IsJustifiedBySectors}
use Rattle.cfb_fat.specs.declared.allocator.Allocator.{Allocator}
use Rattle.cfb_tree_edits.specs.Orphans.{StaysTidy}
use Rattle.cfb_spec.specs.TreeRules.{has_bytes, open_stream, tree_step}
use Rattle.cfb_medium.specs.Calls.{IsFaultOrInvalidInputIf}
use Rattle.cfb_medium.specs.declared.error.Error.{Error}
use Rattle.cfb_medium.specs.declared.medium.ReadMedium.{Ghosts}
use Rattle.cfb_mini.specs.Views.{allocator_of}
use Rattle.cfb_chain_io.specs.ChainEffects.{KeepsFileInvariants}
use Rattle.cfb_ownership.specs.Owners.{Owners}
use Rattle.cfb_stream_reads.specs.Content.{count_from, IsAheadOf}
use Rattle.cfb_tree.specs.Changes.{changed, with_bytes}
use Rattle.cfb_tree.specs.Paths.{Path}
use Rattle.cfb_tree.specs.Tree.{Tree}
use Rattle.cfb_stream_writes.specs.Streams as written
use Rattle.cfb.specs.Streams.{KeepsStream}
use Rattle.cfb.specs.Views.{ahead_held, file_case_table, links_held, mini_of, most_ahead_of, sound_of, stream_known, validation_of}
use Rattle.cfb.specs.declared.compound_file.CompoundFile.{CompoundFile}
use Rattle.cfb.specs.declared.written_stream.Stream.{Stream}

module _ {F : Type 0} {g : Ghosts F} where
  -- the file means the tree, in which the stream at the path has these bytes; it is that of entry `id`, and the file has its sectors
  pub record StreamIsWritten (it : CompoundFile F g) (path : Path) (tree : Tree) (id : ℕ) (content : List ℕ) : Type 0 where
    pub sound : sound_of it ≡ true
    pub at : written.IsStreamAt (file_case_table it) (mini_of it) tree path id content
    pub links : written.AreLinksOf id (links_held it) (mini_of it)
    pub held : (other : ℕ) → stream_known it ≡ Some other → other ≡ id
    pub ahead : IsAheadOf content (ahead_held it)

  -- who owns which sectors then
  abbrev pub owners_at : {it : CompoundFile F g} {path : Path} {tree : Tree} {id : ℕ} {content : List ℕ} → StreamIsWritten it path tree id content → Owners
  owners_at {it} {path} {tree} {id} {content} w = w.at.means.who

  -- the stream of entry `id` has then the bytes that come of its own by the change, and nothing else of the tree is changed; no sector
  -- and no mini sector is in use without an owner that wasn't so before
  abbrev pub RewritesAt : ℕ → (List ℕ → List ℕ) → CompoundFile F g → CompoundFile F g → Type 0
  RewritesAt id change old new = (path : Path) (tree : Tree) (content : List ℕ) → (w : StreamIsWritten old path tree id content)
      → (then : StreamIsWritten new path (changed (file_case_table old) (with_bytes (change content)) path tree) id (change content)) × StaysTidy (mini_of old) (mini_of new) w.at.means.who then.at.means.who

  -- the stream of entry `id` is what it was, and so are the owners
  abbrev pub KeepsAt : ℕ → CompoundFile F g → CompoundFile F g → Type 0
  KeepsAt id old new = (path : Path) (tree : Tree) (content : List ℕ) → (w : StreamIsWritten old path tree id content) → (then : StreamIsWritten new path tree id content) × (then.at.means.who ≡ w.at.means.who)

  -- it is lost, whatever tree is meant
  abbrev pub IsLostAt : ℕ → CompoundFile F g → Type 0
  IsLostAt id it = (path : Path) (tree : Tree) (content : List ℕ) → StreamIsWritten it path tree id content → ⊥

  -- numbers are missing for the stream of entry `id` to have so many bytes
  abbrev pub LacksRoomAt : ℕ → ℕ → CompoundFile F g → Type 0
  LacksRoomAt id len it = (path : Path) (tree : Tree) (content : List ℕ) → StreamIsWritten it path tree id content → written.LacksRoom (mini_of it) (length content) len

  -- the path leads to the stream of entry `id`, and the rules answer with its bytes; the second file has its sectors, and the owners
  -- are these
  pub record FindsWritten (old new : CompoundFile F g) (path : Option Path) (tree : Tree) (id len : ℕ) (who : Owners) : Type 0 where
    pub names : Path
    pub at_path : path ≡ Some names
    pub content : List ℕ
    pub answer : (tree_step (file_case_table old) tree (open_stream names)).1 ≡ has_bytes content
    pub written : StreamIsWritten new names tree id content
    pub owners : owners_at written ≡ who
    pub len_is : len ≡ length content

  -- the file, how many bytes the stream has, and the place from which on they are read and written
  abbrev pub file_under : Stream F g → CompoundFile F g
  file_under it = it.file.now

  abbrev pub stream_len : Stream F g → ℕ
  stream_len it = it.len

  abbrev pub place_of : Stream F g → ℕ
  place_of it = it.position

  -- the number of its entry
  abbrev pub id_of : Stream F g → ℕ
  id_of it = it.id

  -- so many bytes from its place on were read ahead
  abbrev pub buffered_of : Stream F g → ℕ
  buffered_of it = min (stream_len it - place_of it) (count_from (ahead_held (file_under it)) (place_of it))

  -- the layer of sectors below the file
  abbrev pub allocator_under : Stream F g → Allocator F g
  allocator_under it = allocator_of (mini_of (file_under it))

  -- CLOSING THE STREAM NOW LEAVES THIS TREE, in which the stream at the path has these bytes
  pub record ClosesToTree (it : Stream F g) (path : Path) (tree : Tree) (content : List ℕ) : Type 0 where
    pub written : StreamIsWritten (file_under it) path tree (id_of it) content
    pub len : stream_len it ≡ length content

  -- who owns which sectors, with the stream as it stands
  abbrev pub owners_under : {it : Stream F g} {path : Path} {tree : Tree} {content : List ℕ} → ClosesToTree it path tree content → Owners
  owners_under {it} {path} {tree} {content} s = owners_at s.written

  -- the stream has then the bytes that come of its own by the change, and nothing else of the tree is changed; no sector and no mini
  -- sector is in use without an owner that wasn't so before
  abbrev pub RewritesStream : (List ℕ → List ℕ) → Stream F g → Stream F g → Type 0
  RewritesStream change old new = (path : Path) (tree : Tree) (content : List ℕ) → (s : ClosesToTree old path tree content)
      → (then : ClosesToTree new path (changed (file_case_table (file_under old)) (with_bytes (change content)) path tree) (change content)) × StaysTidy (mini_of (file_under old)) (mini_of (file_under new)) (owners_under s) (owners_under then)

  -- the stream is what it was, and so are the owners
  abbrev pub StreamKeeps : Stream F g → Stream F g → Type 0
  StreamKeeps old new = (path : Path) (tree : Tree) (content : List ℕ) → (s : ClosesToTree old path tree content) → (then : ClosesToTree new path tree content) × (owners_under then ≡ owners_under s)

  -- it was only read: it is the same stream of the same file, and what it was
  pub record OnlyReadsStream (old new : Stream F g) : Type 0 where
    pub file : new.file.ghost_name ≡ old.file.ghost_name
    pub entry : id_of new ≡ id_of old
    pub len : stream_len new ≡ stream_len old
    pub read : KeepsStream (stream_len old) (file_under old) (file_under new)
    pub keeps : StreamKeeps old new

  -- once the bytes that it lent are given back it was only read, and is at its place with these read ahead; an error has its cause
  pub record StreamFills (result : Result (Bor (List ℕ)) Error) (old new : Stream F g) : Type 0 where
    pub rests : OnlyReadsStream old new
    pub place : place_of new ≡ place_of old
    pub count : IfOk result (λ b. length b.now ≡ buffered_of new)
    pub cause : IfErr result (IsJustifiedBySectors (allocator_under old) (allocator_under new))

  -- so it is where the stream stands, whatever tree it leaves
  abbrev pub IfStands : Stream F g → Type 0 → Type 0
  IfStands it P = (path : Path) (tree : Tree) (content : List ℕ) → ClosesToTree it path tree content → P

  -- the stream stands for no tree
  abbrev pub IsStreamLost : Stream F g → Type 0
  IsStreamLost it = IfStands it ⊥

  -- no stream has so many bytes; or where it stands, numbers are missing for it to have them
  abbrev pub IsFullFor : Stream F g → ℕ → Type 0
  IsFullFor it len = (2 ^ 63 ≤ len) ⊎ IfStands it (written.LacksRoom (mini_of (file_under it)) (stream_len it) len)

  -- a fault; or the stream is lost
  abbrev pub IsFaultOrGone : Stream F g → Error → Type 0
  IsFaultOrGone it e = IsFaultOrInvalidInputIf ⊥ e ⊎ (IsInvalidPlace e × IsStreamLost it)

  -- It is the stream of the same entry in the same file, which goes on. One that had failed answers `Failed`; after an error it has
  -- failed, or nothing but reads happened. Each error has its cause.
  pub record StreamErrorContract {T : Type 0} (refuses : Error → Type 0) (result : Result T Error) (old new : Stream F g) : Type 0 where
    pub file : new.file.ghost_name ≡ old.file.ghost_name
    pub entry : id_of new ≡ id_of old
    pub seen : (file_case_table (file_under new) ≡ file_case_table (file_under old)) × (sound_of (file_under new) ≡ sound_of (file_under old)) × (validation_of (file_under new) ≡ validation_of (file_under old))
    pub most : most_ahead_of (file_under new) ≡ most_ahead_of (file_under old)
    pub goes_on : KeepsFileInvariants (allocator_under old) (allocator_under new)
    pub answers : FatErrorContract refuses result (allocator_under old) (allocator_under new)

  -- the rules answer with the bytes of the stream at the path, and it stands with these, under these owners
  pub record Opens (path : Option Path) (old : CompoundFile F g) (tree : Tree) (who : Owners) (new : Stream F g) : Type 0 where
    pub names : Path
    pub at_path : path ≡ Some names
    pub content : List ℕ
    pub answer : (tree_step (file_case_table old) tree (open_stream names)).1 ≡ has_bytes content
    pub stands : ClosesToTree new names tree content
    pub owners : owners_under stands ≡ who
