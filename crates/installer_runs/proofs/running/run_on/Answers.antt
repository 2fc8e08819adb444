use Rattle.std.proofs.Common.{◌≡◌, ◌∙◌, ◌↔◌, List, ℕ, map, subst, sym}
use Rattle.std.specs.Prelude.{IsTrue}
use Rattle.cfb_tree.specs.CaseTableViews.{case_table_of}
use Rattle.command_file.specs.RequestsOf.{request_of}
use Rattle.installer.specs.Sessions.{is_sound}
use Rattle.installer_runs.proofs.Whole.{none_anyhow, not_true, runs_anyhow, runs_none, runs_on, runs_still, some_same}
use Rattle.msi.specs.Opened.{IsSoundFile}
use Rattle.installer_runs.proofs.running.run_on.Goals as goal

pub returns-in-Ok-clause-ran : goal.returns-in-Ok-clause-ran
returns-in-Ok-clause-ran g c = λ honest bytes P given holds.
    let there = c.in-Ok.ensures.reopens honest bytes P given holds in
    runs_on g.L.Listener c.args.until c.in-Ok.session c.args.device c.run_session.result.0 (map request_of c.args.commands.now) c.run_session.result.1 c.args.listener.now c.run_session.new.listener c.run_session.ensures
    (case_table_of c.args.letters) c.in-Ok.ensures.letters c.in-Ok.ensures.survives P (c.in-Ok.ensures.began P there.0) there.1

pub returns-in-Ok-clause-anyhow : goal.returns-in-Ok-clause-anyhow
returns-in-Ok-clause-anyhow g c =
    runs_anyhow g.L.Listener c.args.until c.in-Ok.session c.args.device c.run_session.result.0 (map request_of c.args.commands.now) c.run_session.result.1 c.args.listener.now c.run_session.new.listener c.run_session.ensures c.in-Ok.ensures.not_failed

pub returns-in-Err-clause-anyhow : goal.returns-in-Err-clause-anyhow
returns-in-Err-clause-anyhow g c =
    none_anyhow g.D.Device g.L.Listener c.args.until (map request_of c.args.commands.now) c.in-Err.error c.args.device c.in-Err.device c.args.listener.now c.in-Err.ensures.refused_only_if.told c.in-Err.ensures.refused_only_if.fault

pub returns-in-Ok-clause-unsound : goal.returns-in-Ok-clause-unsound
returns-in-Ok-clause-unsound g c = λ honest bytes given never.
    let opened = c.in-Ok.ensures.opened honest in
    let same : opened.0 ≡ bytes = some_same opened.0 bytes (sym opened.1 ∙ given) in
    let judged : IsTrue (is_sound c.in-Ok.session) ↔ IsSoundFile (case_table_of c.args.letters) bytes =
    subst (λ (b : List ℕ). IsTrue (is_sound c.in-Ok.session) ↔ IsSoundFile (case_table_of c.args.letters) b) same opened.2.sound in
    runs_still g.L.Listener c.args.until c.in-Ok.session c.args.device c.run_session.result.0 (map request_of c.args.commands.now) c.run_session.result.1 c.args.listener.now c.run_session.new.listener c.run_session.ensures
    (case_table_of c.args.letters) c.in-Ok.ensures.letters c.in-Ok.ensures.survives
    (not_true (is_sound c.in-Ok.session) (IsSoundFile (case_table_of c.args.letters) bytes) judged never)

pub returns-in-Err-clause-ran : goal.returns-in-Err-clause-ran
returns-in-Err-clause-ran g c = λ honest bytes P given holds.
    runs_none g.D.Device g.L.Listener c.args.until (map request_of c.args.commands.now) c.in-Err.error c.args.device c.in-Err.device c.args.listener.now (case_table_of c.args.letters) P 0 (c.in-Err.ensures.reopens honest bytes P given holds) c.in-Err.ensures.survives
