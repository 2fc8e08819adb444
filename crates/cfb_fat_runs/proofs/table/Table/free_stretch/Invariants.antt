use Rattle.std.proofs.Common.{◌≡◌, ◌+◌, ◌-◌, ◌<◌, ◌≤◌, drop, length}
use Rattle.cfb_fat_runs.specs.RunLists.{all_runs}
use Rattle.cfb_fat_runs.specs.Freeing.{FreesFrom}
use Rattle.cfb_fat_runs.specs.Runs.{start_of}
use Rattle.cfb_fat_runs.specs.Tables.{entries_of, run_capacity, run_count}
use Rattle.cfb_fat_runs.proofs.table.Table.free_stretch.Given as goal

abbrev pub invariant-loop-at : goal.invariant-loop-at
invariant-loop-at l = record {
  frees : FreesFrom l.first l.at (entries_of l.fn.self) (entries_of l.self);
  from : l.first ≤ l.at;
  most : l.at ≤ l.stop;
  begins : start_of l.self.len (drop l.position (all_runs l.self.runs)) ≡ l.at;
  inside : l.position ≤ length (all_runs l.self.runs);
  room : l.at < l.stop → run_count l.self ≤ run_count l.fn.self + 1;
  runs : run_count l.self ≤ run_count l.fn.self + 2;
  capacity : run_capacity l.self ≡ run_capacity l.fn.self;
}

abbrev pub decreases-loop-at : goal.decreases-loop-at
decreases-loop-at l = l.stop - l.at
