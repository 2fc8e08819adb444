-- Where a compound file breaks the rules of soundness: whole lists ([MS-CFB] 2).
use Rattle.std.specs.Prelude.{◌≡◌, ◌⊎◌, ℕ, ◌==◌, ◌&&◌, Bool, List, [], ◌∷◌, ◌++◌, filter, nat_le, nat_lt, nat_eq, slice_get, slice_index_or, if◌then◌else◌, Option, Some, None}
use Rattle.std.specs.List.{flat_map, range_with_len, IsDistinct}
use Rattle.cfb_sectors.specs.Header.{mini_cutoff}
use Rattle.cfb_sectors.specs.Sectors.{free, Chain}
use Rattle.cfb_tree.specs.Tree.{Content}
use Rattle.cfb_tree.specs.Directory.{kind_stream, Entry, Holds, Siblings}
use Rattle.cfb_tree.specs.Entries.{HasSize}
use Rattle.cfb_soundness.specs.Marks.{times}

-- the FAT has no entry for the sector, or says "free" ([MS-CFB] 2.3)
abbrev pub is_unmarked : List ℕ → ℕ → Bool
is_unmarked fat n = slice_index_or fat n free == free

-- THE SECTORS OF TABLES that aren't in use ([MS-CFB] 2.3)
abbrev pub unmarked : List ℕ → List ℕ → List ℕ
unmarked fat sectors = filter (is_unmarked fat) sectors

-- the directory has a tree, which has these entries but the root, siblings in order and each before what it holds ([MS-CFB] 2.6)
pub record HasTree (directory : List Entry) (ids : List ℕ) : Type 0 where
  pub root : Entry
  pub children : List ℕ
  pub content : Content
  pub root_found : slice_get directory 0 ≡ Some root
  pub siblings : Siblings directory root.child children
  pub holds : Holds directory HasSize children content ids
  pub once : IsDistinct nat_eq ids

-- a stream of at least 4096 bytes, whose chain stands in the FAT ([MS-CFB] 2.6.3)
abbrev pub is_long : Entry → Bool
is_long e = (e.kind == kind_stream) && nat_le mini_cutoff e.size

-- a shorter one, whose chain stands in the mini FAT ([MS-CFB] 2.4)
abbrev pub is_short : Entry → Bool
is_short e = (e.kind == kind_stream) && nat_lt e.size mini_cutoff

-- where the chains of such entries start, of these entries of a directory ([MS-CFB] 2.6.1)
abbrev pub start_where : (Entry → Bool) → Option Entry → List ℕ
start_where is None = []
start_where is (Some e) = if is e then e.start ∷ [] else []

abbrev pub starts_where : (Entry → Bool) → List Entry → List ℕ → List ℕ
starts_where is directory ids = flat_map (λ id. start_where is (slice_get directory id)) ids

-- the chain from a start in a table, or nothing where it has none ([MS-CFB] 2.3)
abbrev pub ChainOrNone : List ℕ → ℕ → List ℕ → Type 0
ChainOrNone table start ids = Chain table start ids ⊎ ((ids ≡ []) × ((others : List ℕ) → Chain table start others → ⊥))

-- the chains from these starts, one after the other
abbrev pub ChainsFrom : List ℕ → List ℕ → List ℕ → Type 0
ChainsFrom table [] all = all ≡ []
ChainsFrom table (start ∷ starts) all =
    (own : List ℕ) × (rest : List ℕ) × ChainOrNone table start own × ChainsFrom table starts rest × (all ≡ own ++ rest)

-- the part stands twice or more in a list of uses
abbrev pub is_shared : List ℕ → ℕ → Bool
is_shared uses n = nat_le 2 (times n uses)

-- THE PARTS THAT SERVE TWO USES or more, of the first so many
abbrev pub shared : ℕ → List ℕ → List ℕ
shared count uses = filter (is_shared uses) (range_with_len 0 count)
