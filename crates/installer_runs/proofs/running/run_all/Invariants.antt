use Rattle.std.proofs.Common.{length, ◌-◌}
use Rattle.command_file.specs.RequestsOf.{request_of}
use Rattle.installer_runs.proofs.Along.{Followed}
use Rattle.installer_runs.proofs.running.run_all.Given as goal

-- the commands so far were followed, and heard
abbrev pub invariant-loop-done : goal.invariant-loop-done
invariant-loop-done g l = Followed request_of g.L.Listener l.fn.until l.commands l.done l.fn.session l.session l.fn.listener l.listener

abbrev pub decreases-loop-done : goal.decreases-loop-done
decreases-loop-done g l = length l.commands - l.done
