use Rattle.std.proofs.Common.{ℕ, ◌<◌, ◌≤◌}
use Rattle.std.specs.Prelude.{slice_index}
use Rattle.cfb_fat.proofs.changes.lowest_of.Given as goal

abbrev pub invariant-loop-sector_id : goal.invariant-loop-sector_id
invariant-loop-sector_id l = record {
  before : l.lowest ≤ l.first;
  each : (k : ℕ) → k < l.sector_id-index → l.lowest ≤ slice_index l.sector_ids k;
}
