use Rattle.std.proofs.Common.{refl, sym, ◌∙◌}
use Rattle.command_file.specs.Request as asked
use Rattle.installer.proofs.Following.{failed_follows}
use Rattle.installer.proofs.Stopping.{survives_stay}
use Rattle.installer.specs.Sessions.{device_below, session_case_table}
use Rattle.installer.proofs.session.SessionOver+Staged+D.commit.Goals as goal

pub returns-then-has_failed-clause-follows : goal.returns-then-has_failed-clause-follows
returns-then-has_failed-clause-follows g c =
    let d = g.met.D.Device in
    let it = c.args.self.now in
    failed_follows it asked.commit (survives_stay (session_case_table it) g.D.Device d.counts_now d.only_now (device_below it)) (sym c.has_failed.ensures ∙ c.if-has_failed.true) refl
