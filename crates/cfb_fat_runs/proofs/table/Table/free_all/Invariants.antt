use Rattle.std.proofs.Common.{◌≡◌, ◌*◌, ◌+◌, ◌-◌, ◌≤◌, drop, length}
use Rattle.cfb_fat_runs.specs.Freeing.{stretches, FreesFirst}
use Rattle.cfb_fat_runs.specs.Tables.{entries_of, run_capacity, run_count}
use Rattle.cfb_fat_runs.proofs.table.Table.free_all.Given as goal

abbrev pub invariant-loop-place : goal.invariant-loop-place
invariant-loop-place l = record {
  frees : FreesFirst l.place l.sectors (entries_of l.fn.self) (entries_of l.self);
  inside : l.place ≤ length l.sectors;
  runs : run_count l.self + 2 * stretches (drop l.place l.sectors) ≤ run_count l.fn.self + 2 * stretches l.sectors;
  capacity : run_capacity l.self ≡ run_capacity l.fn.self;
}

abbrev pub decreases-loop-place : goal.decreases-loop-place
decreases-loop-place l = length l.sectors - l.place
