use Rattle.std.proofs.Common.{◌≡◌, ◌+◌, ◌-◌, ◌≤◌, drop, length}
use Rattle.cfb_fat_runs.specs.Freeing.{stretches}
use Rattle.cfb_fat_runs.proofs.freeing.count_stretches.Given as goal

abbrev pub invariant-loop-place : goal.invariant-loop-place
invariant-loop-place l = record {
  inside : l.place ≤ length l.sectors;
  few : l.count ≤ l.place;
  all : l.count + stretches (drop l.place l.sectors) ≡ stretches l.sectors;
}

abbrev pub decreases-loop-place : goal.decreases-loop-place
decreases-loop-place l = length l.sectors - l.place
