use Rattle.std.proofs.Common.{[]}
use Rattle.installer_runs.proofs.Hearing.{heard_none, heard_one}
use Rattle.installer_runs.proofs.running.tell_unfit.Goals as goal

pub returns-in-Ok : goal.returns-in-Ok
returns-in-Ok g c = heard_one g.L.Listener.hears [] c.args.listener.now c.keep_back.new.self c.keep_back.ensures

pub returns-in-Err : goal.returns-in-Err
returns-in-Err g c = heard_none g.L.Listener.hears c.args.listener.now
