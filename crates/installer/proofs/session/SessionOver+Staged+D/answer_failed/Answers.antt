use Rattle.command_file.specs.RequestsOf.{request_of}
use Rattle.installer.proofs.Back.{unasked}
use Rattle.installer.proofs.Following.{failed_follows}
use Rattle.installer.proofs.Stopping.{survives_stay}
use Rattle.installer.specs.Sessions.{device_below, session_case_table}
use Rattle.installer.proofs.session.SessionOver+Staged+D.answer_failed.Goals as goal

pub returns-in-RollBack : goal.returns-in-RollBack
returns-in-RollBack g c = rw c.in-RollBack.is (rw c.answer_of.ensures c.roll_back.ensures)

pub returns-in_default : goal.returns-in_default
returns-in_default g c =
    let d = g.met.D.Device in
    let it = c.args.self.now in
    failed_follows it (request_of c.args.command.now) (survives_stay (session_case_table it) g.D.Device d.counts_now d.only_now (device_below it)) c.requires (unasked c.args.command.now c.in_default.not-RollBack)
