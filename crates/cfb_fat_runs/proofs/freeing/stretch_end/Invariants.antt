use Rattle.std.proofs.Common.{◌≡◌, ℕ, ◌+◌, ◌-◌, ◌<◌, ◌≤◌, drop, length}
use Rattle.std.specs.Prelude.{slice_index}
use Rattle.cfb_fat_runs.specs.Freeing.{stretches_behind}
use Rattle.cfb_fat_runs.proofs.freeing.stretch_end.Given as goal

abbrev pub invariant-loop-place : goal.invariant-loop-place
invariant-loop-place l = record {
  after : l.start < l.place;
  inside : l.place ≤ length l.sectors;
  consecutive : (k : ℕ) → l.start ≤ k → k < l.place → slice_index l.sectors k + l.start ≡ slice_index l.sectors l.start + k;
  rest : stretches_behind (slice_index l.sectors (l.place - 1)) (drop l.place l.sectors) ≡ stretches_behind (slice_index l.sectors l.start) (drop (l.start + 1) l.sectors);
}

abbrev pub decreases-loop-place : goal.decreases-loop-place
decreases-loop-place l = length l.sectors - l.place
