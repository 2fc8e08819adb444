-- A file that is a copy of a live one: the same entries, but for where chains begin, colours and the root's size, and the same bytes
-- in sectors of its own.
use Rattle.std.specs.Prelude.{◌≡◌, ◌⊎◌, ℕ, ◌*◌, ◌<◌, ◌≤◌, List, [], ◌∷◌, length, codes, if◌then◌else◌, nat_eq, slice_get, IfSome, Some}
use Rattle.std.specs.List.{AllByRecursion}
use Rattle.cfb_medium.specs.Versions.{sector_len, stream_len_mask}
use Rattle.cfb_medium.specs.declared.version.Version.{Version}
use Rattle.cfb_sectors.specs.Header.{directory_sector_count, first_directory_sector, first_mini_fat_sector, mini_cutoff, mini_fat_sector_count, IsHeader}
use Rattle.cfb_sectors.specs.Sectors.{fat_in, joined, sectors_in}
use Rattle.cfb_chains.specs.Behind.{AreWhole}
use Rattle.cfb_chains.specs.Owned.{OwnDisjointChains}
use Rattle.cfb_fat.specs.Listed.{Counts, EndsAsStrict}
use Rattle.cfb_tree.specs.Directory.{black, entries_of, kind_stream, kind_unallocated, Entry, HasName}
use Rattle.cfb_tree.specs.Entries.{IsBlackAt}
use Rattle.cfb_tree.specs.Names.{CaseTable}
use Rattle.cfb_tree.specs.Tree.{Tree}
use Rattle.cfb_spec.specs.Means.{directory, directory_count, Layout}
use Rattle.cfb_spec.specs.Sound.{in_file, IsSoundBy, Part}
use Rattle.cfb_ownership.specs.LiveFile.{tables_of, HoldsTables, LiveFile}
use Rattle.cfb_ownership.specs.Owners.{directory_owner, first_of, mini_fat_owner, mini_stream_owner, stream_owner, Owners}
use Rattle.cfb_copying.specs.Making.{HasNoSpare, IsOneOf}

-- entry `id` is a stream of at least 4096 bytes, among these of the directory ([MS-CFB] 2.6.3)
pub record IsLongAmong (directory : List Entry) (ids : List ℕ) (id : ℕ) : Type 0 where
  pub entry : Entry
  pub found : slice_get directory id ≡ Some entry
  pub of_kind : entry.kind ≡ kind_stream
  pub long : mini_cutoff ≤ entry.size
  pub among : IsOneOf ids id

-- these entries are those of the directory, but that the mini stream and the long streams among these begin where their owners'
-- chains do
pub record Restarts (directory : List Entry) (ids : List ℕ) (own : ℕ → List ℕ) (later : List Entry) : Type 0 where
  pub size : length later ≡ length directory
  pub root : (e : Entry) → slice_get directory 0 ≡ Some e → slice_get later 0 ≡ Some (record e { start = first_of (own mini_stream_owner) })
  pub long : (id : ℕ) (e : Entry) → (id ≡ 0 → ⊥) → IsLongAmong directory ids id → slice_get directory id ≡ Some e
      → slice_get later id ≡ Some (record e { start = first_of (own (stream_owner id)) })
  pub other : (id : ℕ) → (id ≡ 0 → ⊥) → (IsLongAmong directory ids id → ⊥) → slice_get later id ≡ slice_get directory id

-- an entry's colour in a copy: black where the entry is in use ([MS-CFB] 2.6.4)
abbrev pub color_then : Entry → ℕ
color_then e = if nat_eq e.kind kind_unallocated then e.color else black

-- the entry in that colour
abbrev pub in_black : Entry → Entry
in_black e = record e { color = color_then e }

-- each entry is the one that it was, in black
pub record Paints (old new : List Entry) : Type 0 where
  pub count : length new ≡ length old
  pub each : (id : ℕ) (e : Entry) → slice_get old id ≡ Some e → slice_get new id ≡ Some (in_black e)

-- so it is, and the root has this size ([MS-CFB] 2.6.3)
pub record Repairs (size : ℕ) (old new : List Entry) : Type 0 where
  pub count : length new ≡ length old
  pub root : (e : Entry) → slice_get old 0 ≡ Some e → slice_get new 0 ≡ Some (record (in_black e) { size = size })
  pub other : (id : ℕ) (e : Entry) → (id ≡ 0 → ⊥) → slice_get old id ≡ Some e → slice_get new id ≡ Some (in_black e)

-- THE SECOND FILE IS A COPY of the first, whose tree has these entries: each chain has its bytes again, whole sectors that nothing
-- else owns, and no sector is spare
pub record IsFileCopied (s : LiveFile) (who : Owners) (ids : List ℕ) (t : LiveFile) (own : ℕ → List ℕ) : Type 0 where
  pub version : t.version ≡ s.version
  pub header : IsHeader t.version t.bytes
  pub tables : HoldsTables t
  pub owned : OwnDisjointChains t.fat (tables_of t) own
  pub whole : (k : ℕ) → AreWhole t.version t.bytes (own k)
  pub tight : HasNoSpare (record { bytes = t.bytes; table = t.fat; tables = tables_of t }) own
  pub directory_at : first_directory_sector t.bytes ≡ first_of (own directory_owner)
  pub mini_fat_at : first_mini_fat_sector t.bytes ≡ first_of (own mini_fat_owner)
  pub entries : t.entries ≡ entries_of t.version (joined t.version t.bytes (own directory_owner))
  pub mini_fat : t.mini_fat ≡ fat_in t.version t.bytes (own mini_fat_owner)
  pub same_mini_fat : joined t.version t.bytes (own mini_fat_owner) ≡ joined s.version s.bytes (who.sectors mini_fat_owner)
  pub same_mini_stream : joined t.version t.bytes (own mini_stream_owner) ≡ joined s.version s.bytes (who.sectors mini_stream_owner)
  pub same_stream : (id : ℕ) → IsLongAmong s.entries ids id → joined t.version t.bytes (own (stream_owner id)) ≡ joined s.version s.bytes (who.sectors (stream_owner id))
  pub none : (id : ℕ) → (IsLongAmong s.entries ids id → ⊥) → own (stream_owner id) ≡ []
  pub between : List Entry
  pub restarts : Restarts s.entries ids own between
  pub root_size : ℕ
  pub repairs : Repairs root_size between t.entries

-- its header counts the sectors of all tables, and file and DIFAT end as a strict reader asks for ([MS-CFB] 2.1, 2.2, 2.5)
pub record CountsTables (t : LiveFile) (own : ℕ → List ℕ) : Type 0 where
  pub told : Counts t.bytes t.difat_sectors t.fat_sectors
  pub ends : EndsAsStrict t.version t.bytes t.difat_sectors
  pub directory : directory_sector_count t.bytes ≡ directory_count t.version (length (own directory_owner))
  pub mini_fat : mini_fat_sector_count t.bytes ≡ length (own mini_fat_owner)

-- the part is one of these
abbrev pub IsPartUsed : Part → List Part → Type 0
IsPartUsed part [] = ⊥
IsPartUsed part (other ∷ parts) = (part ≡ other) ⊎ IsPartUsed part parts

-- a sound file of which every sector serves a use
pub record IsTight (letters : CaseTable) (bytes : List ℕ) (tree : Tree) : Type 0 where
  pub layout : Layout
  pub sound : IsSoundBy layout letters bytes tree
  pub each : (n : ℕ) → n < sectors_in layout.version (length bytes) → IsPartUsed (in_file n) sound.parts

-- what lenient readings let pass is right ([MS-CFB] 2.6.3, 2.6.4): the root's size is that of the mini stream's whole sectors, where a
-- size of this version can be so great, and root and entries of the tree are black
pub record IsRepaired (bytes : List ℕ) (l : Layout) : Type 0 where
  pub sized : length l.mini_stream_sectors * sector_len l.version ≤ stream_len_mask l.version → l.root.size ≡ length l.mini_stream_sectors * sector_len l.version
  pub root_black : l.root.color ≡ black
  pub blacks : AllByRecursion (IsBlackAt (directory bytes l)) l.entries

-- the root has the name that every root has ([MS-CFB] 2.6.2)
abbrev pub HasRootName : List Entry → Type 0
HasRootName entries = IfSome (slice_get entries 0) (λ root. HasName root (codes "Root Entry"))

-- THE BYTES HOLD A COPY: a file of this version that means the tree, is sound, has no sector that serves no use, and is repaired
pub record HoldsCopy (version : Version) (letters : CaseTable) (bytes : List ℕ) (tree : Tree) : Type 0 where
  pub header : IsHeader version bytes
  pub tight : IsTight letters bytes tree
  pub repaired : IsRepaired bytes tight.layout
