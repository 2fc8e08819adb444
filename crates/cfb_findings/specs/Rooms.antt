-- How many bytes of a chain stand in a file, from its first on ([MS-CFB] 2.1).
use Rattle.std.specs.Prelude.{ℕ, zero, suc, ◌+◌, ◌≤◌, ◌↔◌, List, map, nat_eq, nat_le, slice_index, if◌then◌else◌}
use Rattle.cfb_sectors.specs.Sectors.{greatest_regular, Chain}
use Rattle.cfb_soundness.specs.Places.{HoldBytes}
use Rattle.cfb_findings.specs.Links.{behind}

-- what is listed of a part: nothing where its number isn't regular, or none is listed
abbrev pub of_part : List ℕ → ℕ → ℕ
of_part rooms n = if nat_le n greatest_regular then slice_index rooms n else 0

-- so many bytes stand in the first k parts from a part on, up to the first that lacks some of its own
abbrev pub room : ℕ → ℕ → List ℕ → List ℕ → ℕ → ℕ
room piece zero avail links n = 0
room piece (suc k) avail links n = if nat_eq (of_part avail n) piece then piece + room piece k avail links (behind links n) else of_part avail n

-- the same of twice as many parts, by what stands in the first ones, and behind so many links
abbrev pub more_room : List ℕ → List ℕ → ℕ → ℕ → ℕ
more_room rooms jumps full n = if nat_eq (of_part rooms n) full then of_part rooms n + of_part rooms (behind jumps n) else of_part rooms n

-- these rooms tell of each chain how many of its bytes stand in a file of so many, where its parts have so many and begin at these places
abbrev pub AreRooms : List ℕ → ℕ → (ℕ → ℕ) → ℕ → List ℕ → Type 0
AreRooms links piece place file_len rooms =
    (start : ℕ) (ids : List ℕ) → Chain links start ids → (size : ℕ) → (size ≤ of_part rooms start) ↔ HoldBytes piece (map place ids) size file_len

-- a stream of so many bytes from the start has a chain, and its bytes stand in the file
abbrev pub IsHeld : List ℕ → ℕ → (ℕ → ℕ) → ℕ → ℕ → ℕ → Type 0
IsHeld links piece place file_len start size = (ids : List ℕ) × Chain links start ids × HoldBytes piece (map place ids) size file_len
