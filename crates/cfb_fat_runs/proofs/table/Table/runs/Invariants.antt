use Rattle.std.proofs.Common.{◌≡◌, ◌≤◌, drop, take, length}
use Rattle.std.specs.List.{count_by, range_with_len}
use Rattle.cfb_fat_runs.specs.RunLists.{all_runs}
use Rattle.cfb_fat_runs.specs.Longest.{begins_run}
use Rattle.cfb_fat_runs.specs.Runs.{start_of}
use Rattle.cfb_fat_runs.specs.Tables.{entries_of}
use Rattle.cfb_fat_runs.proofs.table.Table.runs.Given as goal

abbrev pub invariant-loop-position : goal.invariant-loop-position
invariant-loop-position l = record {
  inside : l.position ≤ length (all_runs l.self.runs);
  few : l.count ≤ l.position;
  counted : l.count ≡ count_by (begins_run (entries_of l.self)) (take (start_of l.self.len (drop l.position (all_runs l.self.runs))) (range_with_len 0 (length (entries_of l.self))));
}
