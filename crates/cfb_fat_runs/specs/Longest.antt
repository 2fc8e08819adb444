-- Runs of a table: the longest stretches of sectors of which each goes on in the next one ([MS-CFB] 2.3).
use Rattle.std.specs.Prelude.{◌≡◌, ◌+◌, ◌-◌, ◌<◌, ◌≤◌, ◌==◌, ◌&&◌, ◌||◌, not, if◌then◌else◌, nat_le, nat_lt, ℕ, Bool, List, false, length, slice_index, IsTrue}
use Rattle.std.specs.List.{count_by, range_with_len}
use Rattle.cfb_sectors.specs.Sectors.{end_of_chain, greatest_regular}

-- the entry is a sector that a chain goes on with, or "end of chain"; any other is "free", FAT, DIFAT or invalid
abbrev pub is_of_chain : ℕ → Bool
is_of_chain entry = nat_le entry greatest_regular || entry == end_of_chain

-- a sector goes on in the one behind it: that one is of a chain, and it is linked to it; or both have the same entry
abbrev pub goes_on : List ℕ → ℕ → Bool
goes_on entries n = nat_lt (n + 1) (length entries)
    && (if is_of_chain (slice_index entries (n + 1)) then slice_index entries n == n + 1 else slice_index entries n == slice_index entries (n + 1))

-- a run begins at the first sector, and where the one in front doesn't go on
abbrev pub begins_run : List ℕ → ℕ → Bool
begins_run entries n = n == 0 || not (goes_on entries (n - 1))

-- so many runs a table has
unfoldable pub runs_in : List ℕ → ℕ
runs_in entries = count_by (begins_run entries) (range_with_len 0 (length entries))

-- the run of a sector: so many sectors from its first one on, and the entry of its last one
pub record IsRunOf (entries : List ℕ) (n first count last : ℕ) : Type 0 where
  pub from : first ≤ n
  pub to : n < first + count
  pub inside : first + count ≤ length entries
  pub begins : IsTrue (begins_run entries first)
  pub on : (k : ℕ) → first ≤ k → k + 1 < first + count → IsTrue (goes_on entries k)
  pub ends : goes_on entries (first + count - 1) ≡ false
  pub is_last : slice_index entries (first + count - 1) ≡ last
