-- Mini sectors and their chains ([MS-CFB] 2.4), as lists of bytes and of numbers.
use Rattle.std.specs.Prelude.{ℕ, ◌+◌, ◌*◌, ◌/◌, ◌%◌, ◌<◌, ◌≤◌, List, [], ◌∷◌, length, slice_index}
use Rattle.std.specs.List.{flat_map}
use Rattle.cfb_sectors.specs.Sectors.{filled_part}
use Rattle.cfb_chains.specs.Grown.{IsChainInTable}

-- mini sector n: 64 bytes of the mini stream; those that the stream lacks are zeros ([MS-CFB] 2.4)
abbrev pub mini_sector : List ℕ → ℕ → List ℕ
mini_sector stream n = filled_part stream (64 * n) 64

-- the bytes of some mini sectors, joined
abbrev pub mini_joined : List ℕ → List ℕ → List ℕ
mini_joined stream minis = flat_map (mini_sector stream) minis

-- how many mini sectors so many bytes need
abbrev pub minis_for : ℕ → ℕ
minis_for len = (len + 63) / 64

-- where byte k of the mini chain of these mini sectors stands in the mini stream ([MS-CFB] 2.4)
abbrev pub mini_place : List ℕ → ℕ → ℕ
mini_place minis k = 64 * slice_index minis (k / 64) + k % 64

-- a mini stream of so many bytes has each of these mini sectors ([MS-CFB] 2.4)
abbrev pub AreInside : ℕ → List ℕ → Type 0
AreInside len minis = (k : ℕ) → k < length minis → 64 * slice_index minis k + 64 ≤ len

-- the mini FAT has the whole chain of these mini sectors, and a mini stream of so many bytes has each ([MS-CFB] 2.4)
pub record IsMiniChain (table : List ℕ) (len : ℕ) (minis : List ℕ) : Type 0 where
  pub linked : IsChainInTable table minis
  pub inside : AreInside len minis

-- a mini stream has no header: each number that would stand in one may change
abbrev pub all_words : List ℕ
all_words = 0 ∷ 4 ∷ 8 ∷ 12 ∷ 16 ∷ 20 ∷ 24 ∷ 28 ∷ 32 ∷ 36 ∷ 40 ∷ 44 ∷ 48 ∷ 52 ∷ 56 ∷ 60 ∷ 64 ∷ []
