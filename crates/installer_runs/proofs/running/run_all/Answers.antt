use Rattle.std.proofs.Common.{List, ap, arith, map, refl, subst, sym, ◌∙◌}
use Rattle.command_file.specs.RequestsOf.{request_of}
use Rattle.installer.proofs.Stopping.{survives_stay}
use Rattle.installer.specs.RepliesOf.{reply_of}
use Rattle.installer.specs.Sessions.{device_below, session_case_table}
use Rattle.installer.specs.declared.answer.Answer.{Answer}
use Rattle.installer_runs.proofs.Along.{followed_last, followed_more, followed_none, goes_along}
use Rattle.installer_runs.proofs.Hearing.{heard_none}
use Rattle.installer_runs.specs.Runs.{ends_behind}
use Rattle.installer_runs.specs.declared.running.Ending.TheVariants.{Cut, Whole}
use Rattle.installer_runs.proofs.running.run_all.Goals as goal

pub loop-done-init : goal.loop-done-init
loop-done-init g c =
    followed_none request_of g.L.Listener c.args.until c.args.commands.now c.args.session.now c.args.listener.now
    (survives_stay (session_case_table c.args.session.now) g.D.Device g.met.D.Device.counts_now g.met.D.Device.only_now (device_below c.args.session.now))

pub returns : goal.returns
returns g c =
    goes_along request_of g.L.Listener c.args.until c.args.commands.now c.loop-done.done Whole c.args.session.now c.loop-done.session c.loop-done.session c.args.listener.now c.loop-done.listener c.loop-done.listener refl
    (heard_none g.L.Listener.hears c.loop-done.listener) (λ is. omega (arith, c.loop-done-test.false)) (λ e is. absurd (cc is)) (λ is. absurd (cc is)) c.loop-done.invariant

pub returns-in-Err : goal.returns-in-Err
returns-in-Err g c =
    goes_along request_of g.L.Listener c.args.until c.args.commands.now c.loop-done.done Cut c.args.session.now c.loop-done.session c.run_slice.new.session c.args.listener.now c.loop-done.listener c.run_slice.new.listener c.in-Err.ensures.none_ran
    c.in-Err.ensures.heard (λ is. absurd (cc is)) (λ e is. absurd (cc is)) (λ is. absurd (cc is)) c.loop-done.invariant

pub returns-then-ends_behind : goal.returns-then-ends_behind
returns-then-ends_behind g c =
    let heard = subst (λ (l : List Answer). g.L.Listener.hears c.run_slice.new.listener (map reply_of l) c.hear.new.self) c.deref.ensures.value c.hear.ensures in
    let over = ap (λ (l : List Answer). ends_behind c.args.until (map reply_of l)) (sym c.deref-in-Ok.ensures.value) ∙ sym c.ends_behind.ensures ∙ c.if-ends_behind.true in
    followed_last request_of g.L.Listener c.args.until c.args.commands.now _ c.loop-done.done c.next_slice-end.result c.next_slice-end.ensures.behind c.next_slice-end.ensures.inside refl _ c.args.session.now c.loop-done.session c.run_slice.new.session
    c.args.listener.now c.loop-done.listener c.run_slice.new.listener c.hear.new.self c.loop-done.invariant c.in-Ok.ensures.goes c.in-Ok.ensures.heard heard over

pub loop-done-preserved : goal.loop-done-preserved
loop-done-preserved g c =
    let heard = subst (λ (l : List Answer). g.L.Listener.hears c.run_slice.new.listener (map reply_of l) c.hear.new.self) c.deref.ensures.value c.hear.ensures in
    let on = ap (λ (l : List Answer). ends_behind c.args.until (map reply_of l)) (sym c.deref-in-Ok.ensures.value) ∙ sym c.ends_behind.ensures ∙ c.if-ends_behind.false in
    followed_more request_of g.L.Listener c.args.until c.args.commands.now _ c.loop-done.done c.next_slice-end.result c.next_slice-end.ensures.behind c.next_slice-end.ensures.inside refl _ c.args.session.now c.loop-done.session c.run_slice.new.session
    c.args.listener.now c.loop-done.listener c.run_slice.new.listener c.hear.new.self c.loop-done.invariant c.in-Ok.ensures.goes c.in-Ok.ensures.heard heard on
