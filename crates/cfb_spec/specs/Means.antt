-- Which tree the bytes of a compound file mean ([MS-CFB] 2), with these lenient readings: minor version, transaction
-- number, reserved bytes, the header's counts, colours, the root's name and size, and table entries outside the chains are
-- free, the DIFAT's chain may end in "free", and the bytes that a short last sector lacks are zeros. And which bytes a
-- strict reader takes.
use Rattle.std.specs.Prelude.{◌≡◌, ℕ, ◌+◌, ◌*◌, ◌<◌, ◌≤◌, ◌%◌, List, ◌∷◌, ◌++◌, length, take, replicate, slice_range, slice_get, Some, ◌⊎◌, ⊤, nat_eq, codes}
use Rattle.std.specs.List.{flat_map, AllByRecursion, IsDistinct}
use Rattle.cfb_medium.specs.declared.version.Version.{Version}
use Rattle.cfb_medium.specs.declared.version.Version.TheVariants.{V3, V4}
use Rattle.cfb_medium.specs.Versions.{sector_len}
use Rattle.cfb_sectors.specs.Header.{mini_cutoff, IsHeader, directory_sector_count, fat_sector_count, first_directory_sector, first_mini_fat_sector, mini_fat_sector_count, first_difat_sector, difat_sector_count}
use Rattle.cfb_sectors.specs.Sectors.{free, end_of_chain, AreInFile, joined, Chain, DifatChain, difat, fat_in}
use Rattle.cfb_tree.specs.Names.{CaseTable}
use Rattle.cfb_tree.specs.Tree.{Tree, IsOrdered}
use Rattle.cfb_tree.specs.Directory.{Entry, entries_of, kind_root, black, HasName, Siblings, Holds}
use Rattle.cfb_tree.specs.Entries.{IsColored}

-- where the parts of a file lie: sectors of tables, directory and mini stream, and the tree's entries but the root ([MS-CFB] 1.3)
pub record Layout : Type 0 where
  pub version : Version
  pub difat_sectors : List ℕ
  pub difat_stop : ℕ
  pub fat_sectors : List ℕ
  pub directory_sectors : List ℕ
  pub mini_fat_sectors : List ℕ
  pub root : Entry
  pub mini_stream_sectors : List ℕ
  pub entries : List ℕ

-- the FAT: the FAT sectors joined, as numbers ([MS-CFB] 2.3)
abbrev pub fat : List ℕ → Layout → List ℕ
fat bytes l = fat_in l.version bytes l.fat_sectors

-- the mini FAT: its chain's sectors joined, as numbers ([MS-CFB] 2.4)
abbrev pub mini_fat : List ℕ → Layout → List ℕ
mini_fat bytes l = fat_in l.version bytes l.mini_fat_sectors

-- the directory: its chain's sectors joined, as entries ([MS-CFB] 2.6)
abbrev pub directory : List ℕ → Layout → List Entry
directory bytes l = entries_of l.version (joined l.version bytes l.directory_sectors)

-- the mini stream: the sectors of the whole chain of entry 0, joined ([MS-CFB] 2.6.2)
abbrev pub mini_stream : List ℕ → Layout → List ℕ
mini_stream bytes l = joined l.version bytes l.mini_stream_sectors

-- mini sector n: 64 bytes of the mini stream ([MS-CFB] 2.4)
abbrev pub mini_sector : List ℕ → Layout → ℕ → List ℕ
mini_sector bytes l n = slice_range (mini_stream bytes l) (64 * n) (64 * n + 64)

-- the mini stream has the mini sector ([MS-CFB] 2.4)
abbrev pub IsInMiniStream : List ℕ → Layout → ℕ → Type 0
IsInMiniStream bytes l n = 64 * n + 64 ≤ length (mini_stream bytes l)

-- header, DIFAT, FAT, directory, mini FAT, root and mini stream lie so; only "free" entries follow the DIFAT's last sector
-- number ([MS-CFB] 2.2 to 2.6)
pub record IsLaidOut (bytes : List ℕ) (l : Layout) : Type 0 where
  pub header : IsHeader l.version bytes
  pub difat_chain : DifatChain l.version bytes (first_difat_sector bytes) l.difat_sectors l.difat_stop
  pub difat_end : (l.difat_stop ≡ end_of_chain) ⊎ (l.difat_stop ≡ free)
  pub fat_named : (unused : ℕ) × (difat l.version bytes l.difat_sectors ≡ l.fat_sectors ++ replicate unused free)
  pub fat_in_file : AreInFile l.version bytes l.fat_sectors
  pub directory_chain : Chain (fat bytes l) (first_directory_sector bytes) l.directory_sectors
  pub directory_in_file : AreInFile l.version bytes l.directory_sectors
  pub mini_fat_chain : Chain (fat bytes l) (first_mini_fat_sector bytes) l.mini_fat_sectors
  pub mini_fat_in_file : AreInFile l.version bytes l.mini_fat_sectors
  pub root_found : slice_get (directory bytes l) 0 ≡ Some l.root
  pub root_kind : l.root.kind ≡ kind_root
  pub mini_stream_chain : Chain (fat bytes l) l.root.start l.mini_stream_sectors
  pub mini_stream_in_file : AreInFile l.version bytes l.mini_stream_sectors

-- a stream of at least 4096 bytes: the first of its chain's sectors' bytes ([MS-CFB] 2.6.3)
pub record IsInSectors (bytes : List ℕ) (l : Layout) (e : Entry) (content : List ℕ) : Type 0 where
  pub sectors : List ℕ
  pub chain : Chain (fat bytes l) e.start sectors
  pub in_file : AreInFile l.version bytes sectors
  pub content_is : content ≡ take e.size (joined l.version bytes sectors)
  pub whole : length content ≡ e.size

-- a shorter one: the first of its chain's mini sectors' bytes ([MS-CFB] 2.4)
pub record IsInMiniSectors (bytes : List ℕ) (l : Layout) (e : Entry) (content : List ℕ) : Type 0 where
  pub sectors : List ℕ
  pub chain : Chain (mini_fat bytes l) e.start sectors
  pub in_stream : AllByRecursion (IsInMiniStream bytes l) sectors
  pub content_is : content ≡ take e.size (flat_map (mini_sector bytes l) sectors)
  pub whole : length content ≡ e.size

-- the stream of an entry has these bytes ([MS-CFB] 2.6.3)
pub record HasBytes (bytes : List ℕ) (l : Layout) (e : Entry) (content : List ℕ) : Type 0 where
  pub short : e.size < mini_cutoff → IsInMiniSectors bytes l e content
  pub long : mini_cutoff ≤ e.size → IsInSectors bytes l e content

-- the bytes mean the tree, laid out so, where `Reads` says which bytes a stream has: no entry stands twice in the tree, and
-- siblings rise strictly ([MS-CFB] 2.6.4)
pub record BytesMeanTreeBy (l : Layout) (Reads : Entry → List ℕ → Type 0) (letters : CaseTable) (bytes : List ℕ) (tree : Tree) : Type 0 where
  pub laid_out : IsLaidOut bytes l
  pub facts : l.root.facts ≡ tree.root
  pub children : List ℕ
  pub siblings : Siblings (directory bytes l) l.root.child children
  pub holds : Holds (directory bytes l) Reads children tree.content l.entries
  pub once : IsDistinct nat_eq (0 ∷ l.entries)
  pub ordered : IsOrdered letters tree.content

-- THE MEANING OF A FILE: the bytes mean the tree under a case table ([MS-CFB] 2)
abbrev pub BytesMeanTree : CaseTable → List ℕ → Tree → Type 0
BytesMeanTree letters bytes tree = (l : Layout) × BytesMeanTreeBy l (HasBytes bytes l) letters bytes tree

-- the file can be opened: it means a tree where it doesn't matter which bytes its streams have, or whether they have any ([MS-CFB] 2)
abbrev pub IsOpenable : CaseTable → List ℕ → Type 0
IsOpenable letters bytes = (l : Layout) × (tree : Tree) × BytesMeanTreeBy l (λ e content. ⊤) letters bytes tree

-- the header's count of directory sectors, which is 0 in version 3 ([MS-CFB] 2.2)
abbrev pub directory_count : Version → ℕ → ℕ
directory_count V3 n = 0
directory_count V4 n = n

-- what a strict reader asks for besides: each lenient reading of what chains tell is refused ([MS-CFB] 2.2 to 2.6)
pub record IsStrict (bytes : List ℕ) (l : Layout) : Type 0 where
  pub directory_count : directory_sector_count bytes ≡ directory_count l.version (length l.directory_sectors)
  pub fat_count : fat_sector_count bytes ≡ length l.fat_sectors
  pub mini_fat_count : mini_fat_sector_count bytes ≡ length l.mini_fat_sectors
  pub difat_count : difat_sector_count bytes ≡ length l.difat_sectors
  pub difat_end : l.difat_stop ≡ end_of_chain
  pub whole_sectors : length bytes % sector_len l.version ≡ 0
  pub root_name : HasName l.root (codes "Root Entry")
  pub root_color : l.root.color ≡ black
  pub colors : AllByRecursion (IsColored (directory bytes l)) l.entries

-- a strict reader takes the file ([MS-CFB] 2)
abbrev pub IsStrictlyOpenable : CaseTable → List ℕ → Type 0
IsStrictlyOpenable letters bytes =
    (l : Layout) × (tree : Tree) × BytesMeanTreeBy l (λ e content. ⊤) letters bytes tree × IsStrict bytes l
