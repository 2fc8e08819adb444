use Rattle.std.proofs.Common.{◌≡◌, ℕ, ◌+◌, ◌<◌, ◌≤◌, drop, true}
use Rattle.cfb_fat_runs.specs.RunLists.{all_runs}
use Rattle.cfb_fat_runs.specs.Longest.{goes_on}
use Rattle.cfb_fat_runs.specs.Runs.{start_of}
use Rattle.cfb_fat_runs.specs.Tables.{entries_of}
use Rattle.cfb_fat_runs.proofs.table.Table.first_joined.Given as goal

abbrev pub invariant-loop-first : goal.invariant-loop-first
invariant-loop-first l = record {
  inside : l.first ≤ l.position;
  from : start_of l.self.len (drop l.first (all_runs l.self.runs)) ≤ start_of l.self.len (drop l.position (all_runs l.self.runs));
  on : (k : ℕ) → start_of l.self.len (drop l.first (all_runs l.self.runs)) ≤ k → k + 1 < start_of l.self.len (drop (l.position + 1) (all_runs l.self.runs)) → goes_on (entries_of l.self) k ≡ true;
}

abbrev pub decreases-loop-first : goal.decreases-loop-first
decreases-loop-first l = l.first
