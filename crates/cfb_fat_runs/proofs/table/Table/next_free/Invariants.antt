use Rattle.std.proofs.Common.{◌≡◌, ℕ, ◌-◌, ◌<◌, ◌≤◌, drop, length}
use Rattle.std.specs.Prelude.{slice_index}
use Rattle.cfb_sectors.specs.Sectors.{free}
use Rattle.cfb_fat_runs.specs.RunLists.{all_runs}
use Rattle.cfb_fat_runs.specs.Runs.{start_of}
use Rattle.cfb_fat_runs.specs.Tables.{entries_of}
use Rattle.cfb_fat_runs.proofs.table.Table.next_free.Given as goal

abbrev pub invariant-loop-position : goal.invariant-loop-position
invariant-loop-position l = record {
  inside : l.position ≤ length (all_runs l.self.runs);
  past : l.from ≤ start_of l.self.len (drop l.position (all_runs l.self.runs));
  none : (k : ℕ) → l.from ≤ k → k < start_of l.self.len (drop l.position (all_runs l.self.runs)) → slice_index (entries_of l.self) k ≡ free → ⊥;
}

abbrev pub decreases-loop-position : goal.decreases-loop-position
decreases-loop-position l = length (all_runs l.self.runs) - l.position
