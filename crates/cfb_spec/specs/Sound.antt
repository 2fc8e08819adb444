-- When no part of a file serves two uses, and none is missing: such a file may be changed.
use Rattle.std.specs.Prelude.{◌≡◌, ◌≢◌, ℕ, ◌+◌, ◌*◌, ◌<◌, ◌≤◌, List, [], ◌∷◌, ◌++◌, length, map, take, slice_get, slice_range, Some}
use Rattle.std.specs.List.{flat_map, AllByRecursion}
use Rattle.cfb_sectors.specs.Header.{mini_cutoff}
use Rattle.cfb_sectors.specs.Sectors.{free, IsInFile, Chain, places}
use Rattle.cfb_tree.specs.Names.{CaseTable}
use Rattle.cfb_tree.specs.Tree.{Tree}
use Rattle.cfb_tree.specs.Directory.{Entry, kind_storage, kind_stream}
use Rattle.cfb_spec.specs.Means.{Layout, fat, mini_fat, directory, IsInMiniStream, HasBytes, BytesMeanTreeBy}

-- a part of a file that something uses: a sector, or a mini sector ([MS-CFB] 2.1, 2.4)
pub data Part : Type 0 where
  in_file : ℕ → Part
  in_mini_stream : ℕ → Part

-- the places in the file of the bytes of some mini sectors ([MS-CFB] 2.4)
abbrev pub mini_places : Layout → List ℕ → List ℕ
mini_places l sectors = flat_map (λ n. slice_range (places l.version l.mini_stream_sectors) (64 * n) (64 * n + 64)) sectors

-- as many of the places as the entry's stream has bytes lie in the file ([MS-CFB] 2.1)
abbrev pub LieInFile : List ℕ → Entry → List ℕ → Type 0
LieInFile bytes e all = AllByRecursion (λ place. place < length bytes) (take e.size all)

-- what an entry of the tree uses: a storage nothing, a stream its chain, and its bytes lie in the file ([MS-CFB] 2.6.3)
pub record EntryUses (bytes : List ℕ) (l : Layout) (e : Entry) (parts : List Part) : Type 0 where
  pub storage : e.kind ≡ kind_storage → parts ≡ []
  pub short : e.kind ≡ kind_stream → e.size < mini_cutoff
      → (sectors : List ℕ) × Chain (mini_fat bytes l) e.start sectors × (parts ≡ map in_mini_stream sectors)
      × LieInFile bytes e (mini_places l sectors)
  pub long : e.kind ≡ kind_stream → mini_cutoff ≤ e.size
      → (sectors : List ℕ) × Chain (fat bytes l) e.start sectors × (parts ≡ map in_file sectors)
      × LieInFile bytes e (places l.version sectors)

-- what these entries use, one after the other ([MS-CFB] 2.6)
abbrev pub TreeUses : List ℕ → Layout → List ℕ → List Part → Type 0
TreeUses bytes l [] parts = parts ≡ []
TreeUses bytes l (id ∷ ids) parts =
    (e : Entry) × (own : List Part) × (others : List Part) × (slice_get (directory bytes l) id ≡ Some e)
    × EntryUses bytes l e own × TreeUses bytes l ids others × (parts ≡ own ++ others)

-- the list of all uses: FAT, DIFAT, directory, mini FAT, mini stream, each stream ([MS-CFB] 2)
abbrev pub Uses : List ℕ → Layout → List Part → Type 0
Uses bytes l parts =
    (streams : List Part) × TreeUses bytes l l.entries streams
    × (parts ≡ map in_file (l.fat_sectors ++ l.difat_sectors ++ l.directory_sectors ++ l.mini_fat_sectors ++ l.mini_stream_sectors) ++ streams)

-- a part that may be used: the file or the mini stream has it, and its table has an entry for it that isn't "free" ([MS-CFB] 2.3, 2.4)
abbrev pub IsUsablePart : List ℕ → Layout → Part → Type 0
IsUsablePart bytes l (in_file n) =
    IsInFile l.version bytes n × (next : ℕ) × (slice_get (fat bytes l) n ≡ Some next) × (next ≢ free)
IsUsablePart bytes l (in_mini_stream n) =
    IsInMiniStream bytes l n × (next : ℕ) × (slice_get (mini_fat bytes l) n ≡ Some next) × (next ≢ free)

-- no part stands twice
abbrev pub AreApart : List Part → Type 0
AreApart [] = Unit {0}
AreApart (part ∷ parts) = AllByRecursion (λ other. part ≢ other) parts × AreApart parts

-- the FAT has an entry for each sector of the file ([MS-CFB] 2.3)
abbrev pub IsCovered : List ℕ → Layout → Type 0
IsCovered bytes l = (n : ℕ) → IsInFile l.version bytes n → n < length (fat bytes l)

-- the bytes mean the tree, laid out so, and are sound ([MS-CFB] 2)
pub record IsSoundBy (l : Layout) (letters : CaseTable) (bytes : List ℕ) (tree : Tree) : Type 0 where
  pub means : BytesMeanTreeBy l (HasBytes bytes l) letters bytes tree
  pub parts : List Part
  pub uses : Uses bytes l parts
  pub apart : AreApart parts
  pub usable : AllByRecursion (IsUsablePart bytes l) parts
  pub covered : IsCovered bytes l

-- A SOUND FILE ([MS-CFB] 2)
abbrev pub IsSoundContainer : CaseTable → List ℕ → Type 0
IsSoundContainer letters bytes = (l : Layout) × (tree : Tree) × IsSoundBy l letters bytes tree
