-- Streams of a file that are read, by their paths.
use Rattle.std.specs.Prelude.{◌≡◌, ◌⊎◌, ℕ, ◌-◌, min, false, take, true, List, length, IfErr, IfOk, IsTrue, Result}
use Rattle.std.specs.Borrow.{Bor}
use Rattle.cfb_chains.specs.ChainCalls.{IsInvalidPlace}
use Rattle.cfb_directory.specs.Views.{entries_held}
use Rattle.cfb_entries.specs.Rules.{IsFoundAt}
use Rattle.cfb_fat.specs.Tables.{bytes_of, has_failed_here, is_honest, IsJustifiedBySectors}
use Rattle.cfb_spec.specs.Means.{HasBytes, Layout, BytesMeanTreeBy}
use Rattle.cfb_spec.specs.TreeRules.{Answer, has_bytes, refused}
use Rattle.cfb_medium.specs.Calls.{IsFaultOrInvalidInputIf}
use Rattle.cfb_medium.specs.declared.error.Error.{Error}
use Rattle.cfb_medium.specs.declared.error.Error.TheVariants.{Failed, InvalidData, Memory}
use Rattle.cfb_medium.specs.declared.medium.ReadMedium.{Ghosts}
use Rattle.cfb_mini.specs.Views.{allocator_of, directory_of, MiniMatchesBytes}
use Rattle.cfb_opening.specs.Opened as opening
use Rattle.cfb_stream_reads.specs.Content as lower
use Rattle.cfb_stream_reads.specs.Streams.{joined_in, sectors_in, IsOfLevel, StreamLiesIn}
use Rattle.cfb_tree.specs.Directory.{kind_stream, Entry}
use Rattle.cfb_tree.specs.Paths.{Path}
use Rattle.cfb_tree.specs.Tree.{Tree}
use Rattle.cfb.specs.Views.{ahead_held, file_case_table, links_held, mini_of, stream_known, OnlyReadsFile}
use Rattle.cfb.specs.declared.compound_file.CompoundFile.{CompoundFile}
use Rattle.cfb.specs.declared.stream.ReadStream.{ReadStream}

module _ {F : Type 0} {g : Ghosts F} where
  -- the file, how many bytes the stream has, and the place from which on they are read
  abbrev pub file_of : ReadStream F g → CompoundFile F g
  file_of it = it.file.now

  abbrev pub len_of : ReadStream F g → ℕ
  len_of it = it.len

  abbrev pub position_of : ReadStream F g → ℕ
  position_of it = it.position

  -- so many bytes from the position on were read ahead
  abbrev pub buffered_of : ReadStream F g → ℕ
  buffered_of it = min (len_of it - position_of it) (lower.count_from (ahead_held (file_of it)) (position_of it))

  -- the stream of so many bytes that the file reads is this content: the file has it in its sectors, and what was read ahead is of it
  pub record FileHasStream (it : CompoundFile F g) (len : ℕ) (content : List ℕ) : Type 0 where
    pub lies : lower.SectorsHaveContent (mini_of it) (links_held it) len content
    pub ahead : lower.IsAheadOf content (ahead_held it)

  -- the file was only read, and the stream that it reads is what it was
  pub record KeepsStream (len : ℕ) (old new : CompoundFile F g) : Type 0 where
    pub rests : OnlyReadsFile old new
    pub links : links_held new ≡ links_held old
    pub held : stream_known new ≡ stream_known old
    pub content : (content : List ℕ) → FileHasStream old len content → FileHasStream new len content

  -- the stream has these bytes
  abbrev pub StreamHasContent : ReadStream F g → List ℕ → Type 0
  StreamHasContent it content = FileHasStream (file_of it) (len_of it) content

  -- the same stream of the same file, which was only read: it has the bytes that it had
  pub record KeepsReadStream (old new : ReadStream F g) : Type 0 where
    pub file : new.file.ghost_name ≡ old.file.ghost_name
    pub len : len_of new ≡ len_of old
    pub keeps : KeepsStream (len_of old) (file_of old) (file_of new)

  -- once the bytes that it lent are given back it stays at its position, with these read ahead; an error has its cause
  pub record ReaderFills (result : Result (Bor (List ℕ)) Error) (old new : ReadStream F g) : Type 0 where
    pub stays : KeepsReadStream old new
    pub position : position_of new ≡ position_of old
    pub count : IfOk result (λ b. length b.now ≡ buffered_of new)
    pub cause : IfErr result (IsJustifiedBySectors (allocator_of (mini_of (file_of old))) (allocator_of (mini_of (file_of new))))

  -- a fault; or the file hasn't the stream's bytes
  abbrev pub IsFaultOrLost : ReadStream F g → Error → Type 0
  IsFaultOrLost it e = IsFaultOrInvalidInputIf ⊥ e ⊎ (IsInvalidPlace e × ((content : List ℕ) → StreamHasContent it content → ⊥))

  -- A live file over an honest medium holds the tree: memory is that of the bytes, and in the layout that memory shows they mean it,
  -- streams with their bytes ([MS-CFB] 2)
  pub record FileHoldsTree (it : CompoundFile F g) (tree : Tree) : Type 0 where
    pub live : has_failed_here (allocator_of (mini_of it)) ≡ false
    pub honest : IsTrue (is_honest (allocator_of (mini_of it)))
    pub memory : MiniMatchesBytes (mini_of it)
    pub layout : Layout
    pub shows : opening.MemoryShows (mini_of it) (bytes_of (allocator_of (mini_of it))) layout
    pub means : BytesMeanTreeBy layout (HasBytes (bytes_of (allocator_of (mini_of it))) layout) (file_case_table it) (bytes_of (allocator_of (mini_of it))) tree

  -- the path's text leads to the entry of a stream, of so many bytes
  pub record IsStreamAt (it : CompoundFile F g) (text : List ℕ) (e : Entry) : Type 0 where
    pub names : Path
    pub found : IsFoundAt (file_case_table it) (entries_held (directory_of (mini_of it))) text names e
    pub of_kind : e.kind ≡ kind_stream

  -- the second file reads the stream at the path, which has so many bytes, from the sectors in which it lies
  pub record FindsStream (old new : CompoundFile F g) (text : List ℕ) (size : ℕ) : Type 0 where
    pub entry : Entry
    pub at_path : IsStreamAt old text entry
    pub lies : StreamLiesIn (mini_of old) entry.start entry.size (sectors_in (links_held new))
    pub level : IsOfLevel (mini_of old) entry.size (links_held new)
    pub has_size : size ≡ entry.size

  -- so many bytes stand first in the sectors from which the file reads
  abbrev pub bytes_found : CompoundFile F g → ℕ → List ℕ
  bytes_found it len = take len (joined_in (mini_of it) (links_held it))

  -- an honest file whose memory is that of its bytes
  abbrev pub IsTrueToBytes : CompoundFile F g → Type 0
  IsTrueToBytes it = IsTrue (is_honest (allocator_of (mini_of it))) × MiniMatchesBytes (mini_of it)

  -- the chain of the stream at the path breaks: it lies in no sectors
  pub record IsBroken (it : CompoundFile F g) (text : List ℕ) : Type 0 where
    pub entry : Entry
    pub at_path : IsStreamAt it text entry
    pub lost : (sectors : List ℕ) → StreamLiesIn (mini_of it) entry.start entry.size sectors → ⊥

  -- want of memory, or the file had failed
  abbrev pub IsFileMemoryOrFailed : CompoundFile F g → Error → Type 0
  IsFileMemoryOrFailed it e = (e ≡ Memory) ⊎ ((e ≡ Failed) × (has_failed_here (allocator_of (mini_of it)) ≡ true))

  -- the answer is a stream, which was found, or this refusal; or the stream's chain breaks, or there was a fault
  abbrev pub ReturnsStream : {A : Type 0} → CompoundFile F g → List ℕ → (A → CompoundFile F g) → (A → ℕ) → Answer → Result A Error → Type 0
  ReturnsStream {A} it text file len answer result =
      IfOk result (λ s. FindsStream it (file s) text (len s) × (bytes : List ℕ) × (answer ≡ has_bytes bytes) × (len s ≡ length bytes))
      × IfErr result (λ e. IsFileMemoryOrFailed it e ⊎ (answer ≡ refused e) ⊎ ((e ≡ InvalidData) × IsBroken it text))

  -- the answer is a stream of these bytes, or this refusal; or there was a fault
  abbrev pub ReturnsBytesOrFault : {A : Type 0} → CompoundFile F g → (A → CompoundFile F g) → (A → ℕ) → Answer → Result A Error → Type 0
  ReturnsBytesOrFault {A} it file len answer result =
      IfOk result (λ s. (bytes : List ℕ) × (answer ≡ has_bytes bytes) × FileHasStream (file s) (len s) bytes)
      × IfErr result (λ e. IsFileMemoryOrFailed it e ⊎ (answer ≡ refused e))

  -- why a stream that is there isn't read: its chain breaks; or memory isn't that of the bytes
  abbrev pub IsUnread : CompoundFile F g → List ℕ → Error → Type 0
  IsUnread it text e = ((e ≡ InvalidData) × IsBroken it text) ⊎ (IsInvalidPlace e × (IsTrueToBytes it → ⊥))

  -- the answer is a stream of as many bytes, which the second file has read, or this refusal; or it can't be read, or there was a fault
  abbrev pub TellsRead : {A : Type 0} → CompoundFile F g → CompoundFile F g → List ℕ → (A → List ℕ) → Answer → Result A Error → Type 0
  TellsRead {A} old new text read answer result =
      IfOk result (λ s. FindsStream old new text (length (read s)) × (bytes : List ℕ) × (answer ≡ has_bytes bytes) × (length (read s) ≡ length bytes))
      × IfErr result (λ e. IsFaultOrInvalidInputIf ⊥ e ⊎ (answer ≡ refused e) ⊎ IsUnread old text e)
