-- Where a walk along a run leads ([MS-CFB] 2.3).
use Rattle.std.specs.Prelude.{◌≡◌, ◌+◌, ◌<◌, ℕ, suc, List, ◌++◌, length, slice_index}
use Rattle.std.specs.List.{range_with_len}

-- so many sectors from a start on, each linked to the next one and the last one elsewhere, stand behind the others
pub record AreLinkedBehind (entries : List ℕ) (start next : ℕ) (old new : List ℕ) : Type 0 where
  pub more : ℕ
  pub inside : start + more < length entries
  pub on : (k : ℕ) → k < more → slice_index entries (start + k) ≡ start + k + 1
  pub last : slice_index entries (start + more) ≡ next
  pub added : new ≡ old ++ range_with_len start (suc more)
