-- How far a copy has come, and what the steps of making it say.
use Rattle.std.specs.Prelude.{◌≡◌, ℕ, ◌+◌, ◌*◌, ◌/◌, ◌<◌, ◌≤◌, List, [], ◌∷◌, ◌++◌, false, length, IfErr, IsTrue, OnOk, Result}
use Rattle.std.specs.List.{flat_map}
use Rattle.cfb_medium.specs.Versions.{sector_len}
use Rattle.cfb_medium.specs.declared.error.Error.{Error}
use Rattle.cfb_medium.specs.declared.medium.ReadMedium.{Ghosts}
use Rattle.cfb_medium.specs.declared.version.Version.{Version}
use Rattle.cfb_sectors.specs.Sectors.{end_of_chain, greatest_regular, joined, Chain}
use Rattle.cfb_chains.specs.Changes.{IsNotIn}
use Rattle.cfb_creating.specs.NewFile.{new_directory}
use Rattle.cfb_directory.specs.Entries.{SizesFit}
use Rattle.cfb_fat.specs.Growing.{IsLean}
use Rattle.cfb_fat.specs.Orderly.{named_at_most}
use Rattle.cfb_fat.specs.Tables.{bytes_of, fat_of, has_failed_here, is_honest, version_of, OnlyReadsAllocator, HasEnds, HeaderCountsTables}
use Rattle.cfb_fat.specs.declared.allocator.Allocator.{Allocator}
use Rattle.cfb_chain_io.specs.ChainEffects.{KeepsFileInvariants}
use Rattle.cfb_ownership.specs.Held.{OwnersHoldTree}
use Rattle.cfb_ownership.specs.LiveFile.{LiveFile}
use Rattle.cfb_ownership.specs.Owners.{directory_owner, first_of, mini_fat_owner, mini_stream_owner, stream_owner, Owners}
use Rattle.cfb_tree.specs.Directory.{entries_of, Entry}
use Rattle.cfb_tree.specs.Names.{CaseTable}
use Rattle.cfb_tree.specs.Tree.{Tree}
use Rattle.cfb_copying.specs.Chains.{IsJustifiedByEither, IsCopyError}
use Rattle.cfb_copying.specs.Copied.{CountsTables, IsFileCopied, IsLongAmong, Restarts}
use Rattle.cfb_copying.specs.Making.{with_list, IsFileInProgress, IsOneOf}

-- a copy is made of the live file, whose tree has these entries, in these bytes; its root has this size, and the header's counts are
-- right
pub record HasCopy (s : LiveFile) (who : Owners) (ids : List ℕ) (size : ℕ) (bytes : List ℕ) : Type 0 where
  pub file : LiveFile
  pub own : ℕ → List ℕ
  pub copied : IsFileCopied s who ids file own
  pub sized : copied.root_size ≡ size
  pub counted : CountsTables file own
  pub bytes_are : file.bytes ≡ bytes

-- entries of this version fill whole sectors, and each fits into its bytes ([MS-CFB] 2.6.1)
pub record FillSectors (version : Version) (entries : List Entry) : Type 0 where
  pub count : ℕ
  pub some : 0 < count
  pub whole : length entries * 128 ≡ count * sector_len version
  pub sizes : SizesFit version entries

-- entry `id` is one of these, and none of those that are done, which stand before it
pub record IsNext (ids done : List ℕ) (id : ℕ) : Type 0 where
  pub among : IsOneOf ids id
  pub fresh : IsNotIn done id
  pub rest : List ℕ
  pub splits : ids ≡ done ++ id ∷ rest

-- the sectors of mini FAT, mini stream, and these entries' streams
abbrev pub sectors_among : Owners → List ℕ → List ℕ
sectors_among who ids = who.sectors mini_fat_owner ++ who.sectors mini_stream_owner ++ flat_map (λ id. who.sectors (stream_owner id)) ids

-- a file of this version can have so many sectors besides its tables', with an entry of the FAT for each and a number ([MS-CFB]
-- 2.1, 2.3, 2.5)
pub record CanHold (version : Version) (content : ℕ) : Type 0 where
  pub fat_count : ℕ
  pub difat_count : ℕ
  pub covered : content + fat_count + difat_count ≤ fat_count * (sector_len version / 4)
  pub named : fat_count ≤ named_at_most version difat_count
  pub numbered : content + fat_count + difat_count ≤ greatest_regular + 1

module _ {F : Type 0} {g : Ghosts F} where
  -- the file that is copied: an honest one, seen as this live file, which holds a tree of these entries
  pub record IsOriginal (it : Allocator F g) (s : LiveFile) (who : Owners) (ids : List ℕ) : Type 0 where
    pub letters : CaseTable
    pub tree : Tree
    pub held : OwnersHoldTree s who letters tree
    pub all : ids ≡ held.ids
    pub sizes : SizesFit s.version s.entries
    pub honest : IsTrue (is_honest it)
    pub version : version_of it ≡ s.version
    pub bytes : bytes_of it ≡ s.bytes
    pub fat : fat_of it ≡ s.fat

  -- it is a new file, of which the directory owns a sector, and its header counts its tables ([MS-CFB] 2)
  pub record IsNewFileBegun (version : Version) (it : Allocator F g) : Type 0 where
    pub made : IsFileInProgress 1 end_of_chain it (with_list directory_owner (1 ∷ []) (λ k. [])) (with_list directory_owner (new_directory version) (λ k. []))
    pub of_version : version_of it ≡ version
    pub lean : IsLean it 1
    pub told : HeaderCountsTables it
    pub ends : HasEnds it

  -- So far mini FAT, mini stream and the long streams among `done` were copied, and these entries tell where they begin; the mini
  -- FAT has these sectors, and the directory is a new file's; the tables are no larger than these need.
  pub record HasCopied (s : LiveFile) (who : Owners) (done minis : List ℕ) (later : List Entry) (it : Allocator F g) : Type 0 where
    pub own : ℕ → List ℕ
    pub bytes : ℕ → List ℕ
    pub made : IsFileInProgress 1 end_of_chain it own bytes
    pub version : version_of it ≡ s.version
    pub directory : own directory_owner ≡ 1 ∷ []
    pub minis_are : own mini_fat_owner ≡ minis
    pub mini_fat : bytes mini_fat_owner ≡ joined s.version s.bytes (who.sectors mini_fat_owner)
    pub mini_stream : bytes mini_stream_owner ≡ joined s.version s.bytes (who.sectors mini_stream_owner)
    pub streams : (id : ℕ) → IsLongAmong s.entries done id → bytes (stream_owner id) ≡ joined s.version s.bytes (who.sectors (stream_owner id))
    pub none : (id : ℕ) → (IsLongAmong s.entries done id → ⊥) → own (stream_owner id) ≡ []
    pub restarts : Restarts s.entries done own later
    pub lean : IsLean it (length (sectors_among who done) + 1)

  -- the directory holds these entries, and its chain begins where it did; all other owners have what they had
  pub record HasEntries (version : Version) (mini_fat : ℕ) (own bytes : ℕ → List ℕ) (entries : List Entry) (ids : List ℕ) (it : Allocator F g) : Type 0 where
    pub content : List ℕ
    pub made : IsFileInProgress 1 mini_fat it (with_list directory_owner ids own) (with_list directory_owner content bytes)
    pub begins : first_of ids ≡ 1
    pub held : entries_of version content ≡ entries

module _ {F : Type 0} {g : Ghosts F} {T : Type 0} {h : Ghosts T} where
  -- A step: the first file is only read, and the second goes on. An error has its cause in one of them.
  pub record CopiesOneStep {R : Type 0} (result : Result R Error) (source read : Allocator F g) (target written : Allocator T h) : Type 0 where
    pub rests : OnlyReadsAllocator source read
    pub goes_on : KeepsFileInvariants target written
    pub live : OnOk result (has_failed_here written ≡ false)
    pub cause : IfErr result (IsJustifiedByEither source read target written)
    pub fault : IfErr result IsCopyError

  -- the source has a chain from this start, and in the file in the making, of the same version, the owner has nothing yet
  pub record CanPut (source : Allocator F g) (start : ℕ) (target : Allocator T h) (directory mini_fat key : ℕ) (own bytes : ℕ → List ℕ) (ids : List ℕ) : Type 0 where
    pub honest : IsTrue (is_honest source)
    pub chain : Chain (fat_of source) start ids
    pub version : version_of target ≡ version_of source
    pub made : IsFileInProgress directory mini_fat target own bytes
    pub none : own key ≡ []
