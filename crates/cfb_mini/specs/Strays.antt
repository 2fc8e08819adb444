-- Sectors and mini sectors that are in use, though nothing owns them ([MS-CFB] 2.3, 2.4).
use Rattle.std.specs.Prelude.{◌≡◌, ℕ, ◌<◌, List, length, slice_index}
use Rattle.cfb_medium.specs.declared.medium.ReadMedium.{Ghosts}
use Rattle.cfb_sectors.specs.Sectors.{free}
use Rattle.cfb_chains.specs.Changes.{IsNotIn}
use Rattle.cfb_fat.specs.Tables.{fat_of, tables_of}
use Rattle.cfb_fat.specs.declared.allocator.Allocator.{Allocator}

-- number n of a table is in use, though it holds no table and is no owner's
pub record IsStrayIn (table tables : List ℕ) (own : ℕ → List ℕ) (n : ℕ) : Type 0 where
  pub below : n < length table
  pub in_use : slice_index table n ≡ free → ⊥
  pub beside : IsNotIn tables n
  pub unowned : (k : ℕ) → IsNotIn (own k) n

module _ {F : Type 0} {g : Ghosts F} where
  -- each sector that is so where those own theirs was so before, where these did
  abbrev pub LeavesNoStrays : Allocator F g → Allocator F g → (ℕ → List ℕ) → (ℕ → List ℕ) → Type 0
  LeavesNoStrays old new own then = (n : ℕ) → IsStrayIn (fat_of new) (tables_of new) then n → IsStrayIn (fat_of old) (tables_of old) own n
