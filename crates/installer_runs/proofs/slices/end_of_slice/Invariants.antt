use Rattle.std.proofs.Common.{length, ◌-◌, ◌<◌, ◌≤◌}
use Rattle.installer_runs.proofs.slices.end_of_slice.Given as goal

abbrev pub invariant-loop-end : goal.invariant-loop-end
invariant-loop-end l = record {
  behind : l.from < l.end;
  inside : l.end ≤ length l.commands;
}

abbrev pub decreases-loop-end : goal.decreases-loop-end
decreases-loop-end l = length l.commands - l.end
