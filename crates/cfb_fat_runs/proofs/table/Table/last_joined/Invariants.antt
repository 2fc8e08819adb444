use Rattle.std.proofs.Common.{◌≡◌, ℕ, ◌+◌, ◌-◌, ◌<◌, ◌≤◌, drop, length, true}
use Rattle.cfb_fat_runs.specs.RunLists.{all_runs}
use Rattle.cfb_fat_runs.specs.Longest.{goes_on}
use Rattle.cfb_fat_runs.specs.Runs.{start_of}
use Rattle.cfb_fat_runs.specs.Tables.{entries_of}
use Rattle.cfb_fat_runs.proofs.table.Table.last_joined.Given as goal

abbrev pub invariant-loop-last : goal.invariant-loop-last
invariant-loop-last l = record {
  inside : l.last < length (all_runs l.self.runs);
  to : start_of l.self.len (drop (l.position + 1) (all_runs l.self.runs)) ≤ start_of l.self.len (drop (l.last + 1) (all_runs l.self.runs));
  on : (k : ℕ) → start_of l.self.len (drop l.position (all_runs l.self.runs)) ≤ k → k + 1 < start_of l.self.len (drop (l.last + 1) (all_runs l.self.runs)) → goes_on (entries_of l.self) k ≡ true;
}

abbrev pub decreases-loop-last : goal.decreases-loop-last
decreases-loop-last l = length (all_runs l.self.runs) - l.last
