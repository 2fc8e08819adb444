use Rattle.std.proofs.Common.{◌≤◌}
use Rattle.command_line.proofs.run.look_at_each.Given as goal

-- no file had a greater status
abbrev pub invariant-loop-path : goal.invariant-loop-path
invariant-loop-path g l = l.greatest ≤ 3
