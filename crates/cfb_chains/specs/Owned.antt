-- Who owns which sectors, and what a change leaves of them.
use Rattle.std.specs.Prelude.{◌≡◌, ℕ, ◌+◌, ◌<◌, ◌≤◌, ◌⊎◌, List, ◌∷◌, ◌++◌, length, slice_get, slice_index, Some}
use Rattle.std.specs.List.{flat_map, AllByRecursion}
use Rattle.cfb_sectors.specs.Sectors.{filled_part, free}
use Rattle.cfb_chains.specs.Changes.{AreSubsetOf, AreDisjoint, IsFreeIn, IsNotIn}
use Rattle.cfb_chains.specs.Grown.{IsChainInTable}

-- what is seen of a layer with sectors: its bytes, its table of sectors, and the sectors that hold tables themselves
pub record SectorLayer : Type 0 where
  pub bytes : List ℕ
  pub table : List ℕ
  pub tables : List ℕ

-- the part has no byte of these numbers of the header, each of four bytes
abbrev pub AreBesideWords : List ℕ → ℕ → ℕ → Type 0
AreBesideWords words place count = AllByRecursion (λ w. (place + count ≤ w) ⊎ (w + 4 ≤ place)) words

-- each owner's sectors are a whole chain of the table, none of them is another owner's or holds a table, and what holds a
-- table isn't marked "free"
pub record OwnDisjointChains (table tables : List ℕ) (own : ℕ → List ℕ) : Type 0 where
  pub linked : (k : ℕ) → IsChainInTable table (own k)
  pub apart : (k l : ℕ) → (k ≡ l → ⊥) → AreDisjoint (own k) (own l)
  pub beside : (k : ℕ) → AreDisjoint tables (own k)
  pub marked : (n : ℕ) → slice_get table n ≡ Some free → IsNotIn tables n

-- with what a sector of these bytes holds
module _ (sector_of : List ℕ → ℕ → List ℕ) where
  -- one relation for every change: it touches at most these numbers of the header, these sectors (their entries and bytes) and
  -- tables; what stands behind the table's old end is one of these or holds a table, and that isn't marked "free". The number
  -- at byte 44 counts the FAT's sectors ([MS-CFB] 2.2)
  pub record ChangesAtMost (words touched : List ℕ) (old new : SectorLayer) : Type 0 where
    pub longer : length old.bytes ≤ length new.bytes
    pub size : length old.table ≤ length new.table
    pub entries : (n : ℕ) → n < length old.table → IsNotIn touched n → slice_index new.table n ≡ slice_index old.table n
    pub sectors : (n : ℕ) → n < length old.table → IsNotIn old.tables n → IsNotIn touched n → sector_of new.bytes n ≡ sector_of old.bytes n
    pub apart : (n : ℕ) → n < length old.table → IsNotIn old.tables n → IsNotIn new.tables n
    pub still : (n : ℕ) → IsNotIn new.tables n → IsNotIn old.tables n
    pub behind : (n : ℕ) → length old.table ≤ n → n < length new.table → IsNotIn touched n → (IsNotIn new.tables n → ⊥) × (slice_index new.table n ≡ free → ⊥)
    pub header : (place count : ℕ) → place + count ≤ 68 → AreBesideWords (44 ∷ words) place count → filled_part new.bytes place count ≡ filled_part old.bytes place count

  -- a change that made the chain of these sectors another one, of what it had and of what was free
  pub record ReplacesChain (words ids more later : List ℕ) (old new : SectorLayer) : Type 0 where
    pub leaves : ChangesAtMost words (ids ++ more) old new
    pub were_free : AllByRecursion (IsFreeIn old.table) more
    pub spare : AreDisjoint new.tables more
    pub linked : IsChainInTable new.table later
    pub among : AreSubsetOf (ids ++ more) later

  -- such a change of one owner's chain; the others own what they owned
  pub record ReplacesOwnedChain (words : List ℕ) (key : ℕ) (ids more : List ℕ) (old new : SectorLayer) (own later : ℕ → List ℕ) : Type 0 where
    pub becomes : ReplacesChain words (own key) more ids old new
    pub mine : later key ≡ ids
    pub others : (k : ℕ) → (k ≡ key → ⊥) → later k ≡ own k

  -- what an owner has stays, with its bytes
  pub record KeepsOwnedSectors (old new : SectorLayer) (ids : List ℕ) : Type 0 where
    pub linked : IsChainInTable new.table ids
    pub beside : AreDisjoint new.tables ids
    pub bytes : flat_map (sector_of new.bytes) ids ≡ flat_map (sector_of old.bytes) ids
