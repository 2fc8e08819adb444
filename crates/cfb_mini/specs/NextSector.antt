-- Mini sectors that are taken into use ([MS-CFB] 2.4).
use Rattle.std.specs.Prelude.{◌≡◌, ℕ, ◌+◌, ◌*◌, ◌<◌, ◌≤◌, List, [], ◌∷◌, ◌++◌, length, slice_get, slice_index, slice_set, None, Option, Some}
use Rattle.cfb_medium.specs.declared.medium.ReadMedium.{Ghosts}
use Rattle.cfb_sectors.specs.Sectors.{end_of_chain, free, greatest_regular}
use Rattle.cfb_chains.specs.Grown.{IsChainInTable}
use Rattle.cfb_fat.specs.declared.allocator.Allocator.{Allocator}
use Rattle.cfb_chain_io.specs.ChainEffects.{len_of}
use Rattle.cfb_mini.specs.NumberWrites.{Enters}
use Rattle.cfb_mini.specs.NumberViews.{numbers_of}
use Rattle.cfb_mini.specs.declared.mini_fat.MiniFat.{MiniFat}

-- the mini FAT's number for the mini sector is "free", and a mini stream of so many bytes has the mini sector ([MS-CFB] 2.4)
pub record IsFreeMiniSector (table : List ℕ) (len n : ℕ) : Type 0 where
  pub regular : n ≤ greatest_regular
  pub found : slice_get table n ≡ Some free
  pub inside : 64 * n + 64 ≤ len

-- no number of a mini sector below this one is "free"
abbrev pub HasNoFreeMiniBelow : List ℕ → ℕ → Type 0
HasNoFreeMiniBelow table n = (k : ℕ) → k < n → slice_index table k ≡ free → ⊥

abbrev pub IsFreeInside : MiniFat → ℕ → Type 0
IsFreeInside it n = IsFreeMiniSector (numbers_of it.numbers) (len_of it.stream) n

-- the mini FAT has a number for it, where there is one
abbrev pub HasNumber : List ℕ → Option ℕ → Type 0
HasNumber table None = Unit {0}
HasNumber table (Some last) = last < length table

-- the last mini sector of a chain, and one that is linked behind it
abbrev pub linked_pair : Option ℕ → ℕ → List ℕ
linked_pair None taken = taken ∷ []
linked_pair (Some last) taken = last ∷ taken ∷ []

-- the numbers with that link: the one behind ends the chain ([MS-CFB] 2.4)
abbrev pub linked_behind : List ℕ → Option ℕ → ℕ → List ℕ
linked_behind table None taken = slice_set table taken end_of_chain
linked_behind table (Some last) taken = slice_set (slice_set table taken end_of_chain) last taken

module _ {F : Type 0} {g : Ghosts F} where
  -- The mini chain took in the first mini sector that was free, behind its last one; the mini stream has it. At most its own numbers and that
  -- of the taken one are changed, in the file as in memory.
  pub record AllocatesMiniSector (old new : Allocator F g) (before after : MiniFat) (minis later : List ℕ) : Type 0 where
    pub taken : ℕ
    pub was_free : IsFreeInside before taken
    pub first : HasNoFreeMiniBelow (numbers_of before.numbers) taken
    pub minis_are : later ≡ minis ++ taken ∷ []
    pub enters : Enters (minis ++ taken ∷ []) old new before after
    pub linked : IsChainInTable (numbers_of after.numbers) later
