use Rattle.std.proofs.Common.{◌-◌, ◌<◌, ◌≤◌, length, get_or}
use Rattle.cfb_fat_runs.specs.RunLists.{all_runs}
use Rattle.cfb_fat_runs.specs.declared.runs.Run.{Run}
use Rattle.cfb_fat_runs.proofs.table.Table.find.Given as goal

abbrev pub invariant-loop-high : goal.invariant-loop-high
invariant-loop-high l = record {
  below : l.low < l.high;
  most : l.high ≤ length (all_runs l.self.runs);
  from : (d : Run) → (get_or (all_runs l.self.runs) l.low d).first ≤ l.index;
  to : (d : Run) → l.high < length (all_runs l.self.runs) → l.index < (get_or (all_runs l.self.runs) l.high d).first;
}

abbrev pub decreases-loop-high : goal.decreases-loop-high
decreases-loop-high l = l.high - l.low
