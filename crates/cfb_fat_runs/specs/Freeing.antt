-- Sectors that are freed, and the stretches of consecutive ones among them ([MS-CFB] 2.3).
use Rattle.std.specs.Prelude.{◌≡◌, ◌+◌, ◌<◌, ◌≤◌, ◌⊎◌, ◌==◌, if◌then◌else◌, ℕ, List, [], ◌∷◌, length, slice_index}
use Rattle.cfb_sectors.specs.Sectors.{free}

-- stretches of consecutive sectors that begin behind this one
abbrev pub stretches_behind : ℕ → List ℕ → ℕ
stretches_behind sector [] = 0
stretches_behind sector (next ∷ rest) = if sector + 1 == next then stretches_behind next rest else 1 + stretches_behind next rest

-- so many stretches of consecutive sectors a list has
abbrev pub stretches : List ℕ → ℕ
stretches [] = 0
stretches (sector ∷ rest) = 1 + stretches_behind sector rest

-- the entries from one sector up to another are "free", and all others stay
pub record FreesFrom (first stop : ℕ) (old new : List ℕ) : Type 0 where
  pub size : length new ≡ length old
  pub here : (n : ℕ) → first ≤ n → n < stop → slice_index new n ≡ free
  pub others : (n : ℕ) → (n < first) ⊎ (stop ≤ n) → slice_index new n ≡ slice_index old n

-- the entries of the first so many of these sectors are "free", and all others stay
pub record FreesFirst (count : ℕ) (sectors old new : List ℕ) : Type 0 where
  pub size : length new ≡ length old
  pub here : (k : ℕ) → k < count → slice_index new (slice_index sectors k) ≡ free
  pub others : (n : ℕ) → ((k : ℕ) → k < count → slice_index sectors k ≡ n → ⊥) → slice_index new n ≡ slice_index old n

-- the entries of these sectors are "free", and all others stay
abbrev pub FreesFatEntries : List ℕ → List ℕ → List ℕ → Type 0
FreesFatEntries sectors = FreesFirst (length sectors) sectors
