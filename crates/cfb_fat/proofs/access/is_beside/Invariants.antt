use Rattle.std.proofs.Common.{◌-◌, ◌<◌, ◌≤◌, ℕ, length}
use Rattle.std.specs.Prelude.{slice_index}
use Rattle.cfb_fat.proofs.access.is_beside.Given as goal

abbrev pub invariant-loop-low : goal.invariant-loop-low
invariant-loop-low l = record {
  most : l.high ≤ length l.sector_ids;
  from : l.from ≤ l.low;
  before : (k : ℕ) → l.from ≤ k → k < l.low → k < length l.sector_ids → slice_index l.sector_ids k < l.first;
  behind : (k : ℕ) → l.high ≤ k → k < length l.sector_ids → l.first ≤ slice_index l.sector_ids k;
}

abbrev pub decreases-loop-low : goal.decreases-loop-low
decreases-loop-low l = l.high - l.low
