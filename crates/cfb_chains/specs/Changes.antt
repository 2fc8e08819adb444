-- What a change of a table of sectors leaves: which entries stay, which sectors come free or into use ([MS-CFB] 2.3).
use Rattle.std.specs.Prelude.{◌≡◌, ℕ, ◌+◌, ◌<◌, ◌≤◌, ◌⊎◌, List, length, slice_get, slice_index, Some}
use Rattle.std.specs.List.{AllByRecursion}
use Rattle.cfb_medium.specs.declared.version.Version.{Version}
use Rattle.cfb_medium.specs.Versions.{sector_len}
use Rattle.cfb_sectors.specs.Sectors.{free, sector_start}

-- no number stands twice
abbrev pub AreDistinct : List ℕ → Type 0
AreDistinct xs = (k l : ℕ) → k < length xs → l < length xs → slice_index xs k ≡ slice_index xs l → k ≡ l

-- none of these is the number
abbrev pub IsNotIn : List ℕ → ℕ → Type 0
IsNotIn xs n = (k : ℕ) → k < length xs → slice_index xs k ≡ n → ⊥

-- the lists have no number in common
abbrev pub AreDisjoint : List ℕ → List ℕ → Type 0
AreDisjoint xs ns = AllByRecursion (IsNotIn xs) ns

-- two tables differ at these entries alone
pub record DifferOnlyAt (entries old new : List ℕ) : Type 0 where
  pub size : length new ≡ length old
  pub others : (n : ℕ) → IsNotIn entries n → slice_index new n ≡ slice_index old n

-- each of these sectors has this entry in the table
abbrev pub HaveEntry : ℕ → List ℕ → List ℕ → Type 0
HaveEntry entry table sectors = (k : ℕ) → k < length sectors → slice_index table (slice_index sectors k) ≡ entry

-- the sector was free, or is a new one behind all others
abbrev pub IsFreeIn : List ℕ → ℕ → Type 0
IsFreeIn fat n = (slice_get fat n ≡ Some free) ⊎ (length fat ≤ n)

-- no sector is spare: none is free but these, which hold the tables
abbrev pub HasNoneSpare : List ℕ → List ℕ → Type 0
HasNoneSpare fat tables = (n : ℕ) → slice_get fat n ≡ Some free → IsNotIn tables n → ⊥

-- each old entry but those named stays; the table may have become longer
pub record SameExceptAt (entries old new : List ℕ) : Type 0 where
  pub size : length old ≤ length new
  pub others : (n : ℕ) → n < length old → IsNotIn entries n → slice_index new n ≡ slice_index old n

-- each of these is one of those
abbrev pub AreSubsetOf : List ℕ → List ℕ → Type 0
AreSubsetOf all xs = (n : ℕ) → IsNotIn all n → IsNotIn xs n

-- the part has no byte of these sectors
abbrev pub IsBeside : Version → List ℕ → ℕ → ℕ → Type 0
IsBeside version sectors place count =
    (k : ℕ) → k < length sectors → (sector_start version (slice_index sectors k) + sector_len version ≤ place) ⊎ (place + count ≤ sector_start version (slice_index sectors k))
