use Rattle.std.proofs.Common.{◌≡◌, false, map, take}
use Rattle.command_file.specs.RequestsOf.{request_of}
use Rattle.installer_runs.specs.Runs.{has_commit}
use Rattle.installer_runs.proofs.slices.before_commit.Given as goal

-- none of those before commits
abbrev pub invariant-loop-count : goal.invariant-loop-count
invariant-loop-count l = has_commit (map request_of (take l.count l.commands)) ≡ false
