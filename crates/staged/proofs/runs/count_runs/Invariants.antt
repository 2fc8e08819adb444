use Rattle.std.proofs.Common.{ℕ, drop, length, ◌≡◌, ◌≤◌, ◌<◌, ◌+◌}
use Rattle.staged.specs.Held.{listed}
use Rattle.staged.specs.Log.{runs_of, run_count}
use Rattle.staged.proofs.runs.count_runs.Given as goal

abbrev pub invariant-loop-number : goal.invariant-loop-number
invariant-loop-number l = (k : ℕ) × (drop k l.pages.entries.entries ≡ l.number-iterator) × record {
  within : k ≤ length (listed l.pages);
  small : l.runs ≤ k;
  most : l.count < 4294967295;
  counted : l.runs + runs_of (listed l.pages) l.count (drop k (listed l.pages)) ≡ run_count (listed l.pages);
}
