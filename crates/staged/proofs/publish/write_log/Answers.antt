use Rattle.std.proofs.Common.{Bool, IsTrue, ℕ, List, ◌≡◌, ◌+◌, ◌<◌, ◌≤◌, ◌^◌, refl, sym, subst, ap, ◌∙◌, arith}
use Rattle.std.proofs.lemmas.Result.{on_ok_weaker}
use Rattle.cfb_medium.specs.Bytes.{overwritten}
use Rattle.cfb_medium.proofs.Answered.{on_ok}
use Rattle.staged.specs.Files.{Files}
use Rattle.staged.specs.Device.{times_up}
use Rattle.staged.specs.Held.{listed}
use Rattle.staged.specs.Log.{run_count}
use Rattle.staged.specs.LogWritten.{IsWrittenLog, head_bytes}
use Rattle.staged.specs.Steps.{IsBehindLogFlag}
use Rattle.staged.specs.declared.device.Which.TheVariants.{Log}
use Rattle.staged.proofs.LogWritten.{HasHead, head_written, whole_log}
use Rattle.staged.proofs.Reaching.{steps_then, rest_steps, lasts_after}
use Rattle.staged.proofs.Steps.{same_files, times_sum}
use Rattle.staged.proofs.publish.write_log.Goals as goal

pub returns-in_err-write_runs-clause-steps : goal.returns-in_err-write_runs-clause-steps
returns-in_err-write_runs-clause-steps g c = steps_then Log IsBehindLogFlag g.D.Device g.met.D.Device.counts_now _ _ _ c.write_head.ensures.steps c.write_runs.ensures.steps

pub returns-clause-written : goal.returns-clause-written
returns-clause-written g c = λ honest.
    let pages = listed c.args.pages.now in
    let start = (g.D.Device.content c.args.device.now).log in
    let h1 = subst (λ (b : Bool). IsTrue b) (sym c.write_head.ensures.honest) honest in
    let h2 = subst (λ (b : Bool). IsTrue b) (sym c.write_runs.ensures.honest) h1 in
    let few : c.count_runs.result < 2 ^ 64 = c.write_head.ensures.few in
    let head : HasHead (overwritten start 1 (head_bytes c.args.len c.count_runs.result)) c.args.len c.count_runs.result = head_written start c.args.len c.count_runs.result c.ranges.len.fits few in
    let shown : HasHead (g.D.Device.content c.write_head.new.device).log c.args.len c.count_runs.result = subst (λ (l : List ℕ). HasHead l c.args.len c.count_runs.result) (sym (ap (λ (f : Files). f.log) (c.in_ok-write_head.ensures.written honest))) head in
    let named : HasHead (g.D.Device.content c.write_head.new.device).log c.args.len (run_count pages) = subst (λ (n : ℕ). HasHead (g.D.Device.content c.write_head.new.device).log c.args.len n) c.count_runs.ensures.value shown in
    let done = c.in_ok-write_runs.ensures in
    on_ok c.sync.result _ (subst (λ (f : Files). IsWrittenLog f.log pages c.args.len) (sym (c.sync.ensures.reads.same h2))
    (whole_log (g.D.Device.content c.write_head.new.device).log (g.D.Device.content c.write_runs.new.device).log pages c.args.len named (done.head h1) (done.written h1).0 (done.written h1).1))

pub returns-clause-steps : goal.returns-clause-steps
returns-clause-steps g c =
    steps_then Log IsBehindLogFlag g.D.Device g.met.D.Device.counts_now _ _ _ (steps_then Log IsBehindLogFlag g.D.Device g.met.D.Device.counts_now _ _ _ c.write_head.ensures.steps c.write_runs.ensures.steps)
    (rest_steps Log IsBehindLogFlag g.D.Device g.met.D.Device.counts_now _ _ c.sync.ensures.reads.honest (g.met.D.Device.rests_leaves _ _ (c.sync.ensures.reads.rests _ (g.met.D.Device.rests_refl _))))

pub returns-clause-lasts : goal.returns-clause-lasts
returns-clause-lasts g c = λ honest.
    let h1 = subst (λ (b : Bool). IsTrue b) (sym c.write_head.ensures.honest) honest in
    let h2 = subst (λ (b : Bool). IsTrue b) (sym c.write_runs.ensures.honest) h1 in
    let home = ap (λ (f : Files). f.home) (c.sync.ensures.reads.same h2) ∙ c.in_ok-write_runs.ensures.home h1 ∙ ap (λ (f : Files). f.home) (c.in_ok-write_head.ensures.written honest) in
    on_ok_weaker c.sync.result (λ kept lasts. lasts_after Log IsBehindLogFlag g.D.Device g.met.D.Device.counts_now _ _ (returns-clause-steps g c) honest lasts kept
    (same_files (g.D.Device.content c.sync.new.device) _ _ home refl)) (c.sync.ensures.kept h2)

pub returns-clause-log_writes : goal.returns-clause-log_writes
returns-clause-log_writes g c =
    let runs = run_count (listed c.args.pages.now) in
    on_ok c.sync.result _ (c.sync.ensures.unwritten Log ∙ c.in_ok-write_runs.ensures.log_writes ∙ ap (λ (m : ℕ). times_up runs m) c.in_ok-write_head.ensures.log_writes ∙ times_sum runs 1 (g.D.Device.writes c.args.device.now Log))
