use Rattle.std.proofs.Common.{◌≡◌, ◌≤◌}
use Rattle.cfb_fat_runs.specs.Tables.{entries_of, run_capacity, run_count}
use Rattle.cfb_fat_runs.proofs.table.Table.join_between.Given as goal

abbrev pub invariant-loop-position : goal.invariant-loop-position
invariant-loop-position l = record {
  inside : l.position ≤ run_count l.self;
  entries : entries_of l.self ≡ entries_of l.fn.self;
  runs : run_count l.self ≤ run_count l.fn.self;
  capacity : run_capacity l.self ≡ run_capacity l.fn.self;
}

abbrev pub decreases-loop-position : goal.decreases-loop-position
decreases-loop-position l = l.position
