-- Where the links of a table lead ([MS-CFB] 2.3).
use Rattle.std.specs.Prelude.{◌≡◌, ℕ, zero, suc, ◌↔◌, List, slice_index_or, nat_le, if◌then◌else◌}
use Rattle.cfb_sectors.specs.Sectors.{end_of_chain, greatest_regular, Chain}

-- the number behind a part's: the table's entry for it, where it is regular and has one, else itself
abbrev pub behind : List ℕ → ℕ → ℕ
behind links n = if nat_le n greatest_regular then slice_index_or links n n else n

-- the number that so many links lead to
abbrev pub linked : ℕ → List ℕ → ℕ → ℕ
linked zero links n = n
linked (suc k) links n = linked k links (behind links n)

-- the table has a chain from the start ([MS-CFB] 2.3)
abbrev pub HasChainFrom : List ℕ → ℕ → Type 0
HasChainFrom links start = (ids : List ℕ) × Chain links start ids

-- these numbers stand behind so many links that the chain of each part that has one has ended
abbrev pub AreEnds : List ℕ → List ℕ → Type 0
AreEnds links ends = (start : ℕ) → (behind ends start ≡ end_of_chain) ↔ HasChainFrom links start
