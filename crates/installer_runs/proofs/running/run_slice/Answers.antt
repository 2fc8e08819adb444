use Rattle.std.proofs.Common.{◌≡◌, ◌∙◌, ◌∷◌, [], List, map, refl, subst, sym, true}
use Rattle.std.proofs.lemmas.Result.{IfOk-weaker}
use Rattle.cfb_medium.specs.declared.error.Error.TheVariants.{InvalidInput}
use Rattle.command_file.specs.Request.{Request}
use Rattle.command_file.specs.Request as asked
use Rattle.command_file.specs.RequestsOf.{request_of}
use Rattle.installer.proofs.Stopping.{survives_stay}
use Rattle.installer.specs.CommandRuns.{FollowAll}
use Rattle.installer.specs.FirstRefusal.{RunsToRefusal}
use Rattle.installer.specs.Reply.{Reply}
use Rattle.installer.specs.Reply as told
use Rattle.installer.specs.RepliesOf.{reply_of}
use Rattle.installer.specs.Sessions.{device_below, session_case_table}
use Rattle.installer_runs.proofs.Fitting.{kept_back}
use Rattle.installer_runs.proofs.Hearing.{heard_none, heard_one}
use Rattle.installer_runs.proofs.Parting.{alone_is}
use Rattle.installer_runs.proofs.Slicing.{kept_until, to_end, to_refusal}
use Rattle.installer_runs.specs.Runs.{is_alone, GoesFit, GoesUntil, LetsPass}
use Rattle.installer_runs.specs.declared.running.Until.{Until}
use Rattle.installer_runs.specs.declared.running.Until.TheVariants.{End, Refusal}
use Rattle.std.specs.Prelude.{IfOk}
use Rattle.installer_runs.proofs.running.run_slice.Goals.{else-is_commit_alone-via-then-is_commit_alone+else-is_unfit, else-is_commit_alone-via-else-is_commit_alone}
use Rattle.installer_runs.proofs.running.run_slice.Goals as goal

pub returns-in-End-clause-goes : goal.returns-in-End-clause-goes
returns-in-End-clause-goes g c =
    subst (λ (u : Until). IfOk c.run.result (λ answers. GoesUntil u (map request_of c.args.slice.now) (map reply_of answers.items) c.args.session.now c.run.new.self)) (sym c.in-End.is) (
    IfOk-weaker c.run.result (λ answers. FollowAll (map request_of c.args.slice.now) (map reply_of answers.items) c.args.session.now c.run.new.self) (λ answers. GoesUntil End (map request_of c.args.slice.now) (map reply_of answers.items) c.args.session.now c.run.new.self)
    (λ answers follow. to_end (map request_of c.args.slice.now) (map reply_of answers.items) c.args.session.now c.run.new.self c.requires lets follow) c.run.ensures.followed)
  where
    lets : map request_of c.args.slice.now ≡ asked.commit ∷ [] → LetsPass c.args.session.now
    lets is = elim c.else-is_commit_alone.branch [
      | else-is_commit_alone-via-then-is_commit_alone+else-is_unfit w ↦ w.is_unfit.ensures.passes w.if-is_unfit.false
      | else-is_commit_alone-via-else-is_commit_alone w ↦ absurd (let alone : is_alone (map request_of c.args.slice.now) ≡ true = subst (λ (rs : List Request). is_alone rs ≡ true) (sym is) refl in let no = w.if-is_commit_alone.false in let told = c.is_commit_alone.ensures in cc)
    ]

pub returns-in-Refusal-clause-goes : goal.returns-in-Refusal-clause-goes
returns-in-Refusal-clause-goes g c =
    subst (λ (u : Until). IfOk c.run_to_refusal.result (λ answers. GoesUntil u (map request_of c.args.slice.now) (map reply_of answers.items) c.args.session.now c.run_to_refusal.new.self)) (sym c.in-Refusal.is) (
    IfOk-weaker c.run_to_refusal.result (λ answers. RunsToRefusal (map request_of c.args.slice.now) (map reply_of answers.items) c.args.session.now c.run_to_refusal.new.self)
    (λ answers. GoesUntil Refusal (map request_of c.args.slice.now) (map reply_of answers.items) c.args.session.now c.run_to_refusal.new.self)
    (λ answers runs. to_refusal (map request_of c.args.slice.now) (map reply_of answers.items) c.args.session.now c.run_to_refusal.new.self c.requires lets runs) c.run_to_refusal.ensures.ran)
  where
    lets : map request_of c.args.slice.now ≡ asked.commit ∷ [] → LetsPass c.args.session.now
    lets is = elim c.else-is_commit_alone.branch [
      | else-is_commit_alone-via-then-is_commit_alone+else-is_unfit w ↦ w.is_unfit.ensures.passes w.if-is_unfit.false
      | else-is_commit_alone-via-else-is_commit_alone w ↦ absurd (let alone : is_alone (map request_of c.args.slice.now) ≡ true = subst (λ (rs : List Request). is_alone rs ≡ true) (sym is) refl in let no = w.if-is_commit_alone.false in let told = c.is_commit_alone.ensures in cc)
    ]

pub returns-then-is_unfit-clause-goes : goal.returns-then-is_unfit-clause-goes
returns-then-is_unfit-clause-goes g c =
    let alone = alone_is (map request_of c.args.slice.now) (sym c.is_commit_alone.ensures ∙ c.if-is_commit_alone.true) in
    let kept : GoesFit (asked.commit ∷ []) (told.refused InvalidInput ∷ []) c.args.session.now c.args.session.now =
    kept_back c.args.session.now (c.is_unfit.ensures.keeps c.if-is_unfit.true) (survives_stay (session_case_table c.args.session.now) g.D.Device g.met.D.Device.counts_now g.met.D.Device.only_now (device_below c.args.session.now)) in
    IfOk-weaker c.refusal.result (λ answers. map reply_of answers.items ≡ told.refused InvalidInput ∷ []) (λ answers. GoesUntil c.args.until (map request_of c.args.slice.now) (map reply_of answers.items) c.args.session.now c.args.session.now)
    (λ answers is. kept_until c.args.until (map request_of c.args.slice.now) (map reply_of answers.items) c.args.session.now alone is kept) c.refusal.ensures
