-- The tables' sectors as they were read, in rising order, and those that were appended since: steps of private functions.
use Rattle.std.specs.Prelude.{◌≡◌, ℕ, ◌+◌, ◌<◌, ◌≤◌, ◌⊎◌, List, length, slice_index}
use Rattle.cfb_medium.specs.declared.version.Version.{Version}
use Rattle.cfb_medium.specs.Versions.{sector_len}
use Rattle.cfb_chains.specs.Changes.{IsNotIn}
use Rattle.cfb_sectors.specs.Sectors.{sector_start}

-- from an index on these rise, or stay
abbrev pub RiseFrom : ℕ → List ℕ → Type 0
RiseFrom from xs = (k l : ℕ) → from ≤ k → k ≤ l → l < length xs → slice_index xs k ≤ slice_index xs l

-- the part has no byte of these sectors, from an index on
abbrev pub IsBesideFrom : ℕ → Version → List ℕ → ℕ → ℕ → Type 0
IsBesideFrom from version sectors place count =
    (k : ℕ) → from ≤ k → k < length sectors → (sector_start version (slice_index sectors k) + sector_len version ≤ place) ⊎ (place + count ≤ sector_start version (slice_index sectors k))

-- in front of an index each is one of those that were read, and from there on they rise
pub record AreRead (read : List ℕ) (from : ℕ) (xs : List ℕ) : Type 0 where
  pub inside : from ≤ length xs
  pub front : (k : ℕ) → k < from → IsNotIn read (slice_index xs k) → ⊥
  pub rest : RiseFrom from xs
