use Rattle.std.proofs.Common.{sym, ap, ◌∙◌, Some, arith, inr}
use Rattle.std.specs.Prelude.{IsTrue}
use Rattle.staged.specs.Files.{Files}
use Rattle.staged.proofs.Settling.{settled_still}
use Rattle.installer.proofs.Stopping.{alike_then}
use Rattle.installer.proofs.Recovering.{recovers_home, faults}
use Rattle.installer.proofs.beginning.recovered_medium.Goals as goal

pub returns-in-Ok-new-clause-bytes : goal.returns-in-Ok-new-clause-bytes
returns-in-Ok-new-clause-bytes g c = λ honest.
    let after : IsTrue (g.D.Device.honest c.recover.new.device) = rw c.recover.ensures.honest honest in
    recovers_home (g.D.Device.content c.args.device) (g.D.Device.content c.recover.new.device) c.in-Ok.field-0 (c.in-Ok.ensures.recovers honest) ∙ ap Some (sym (c.in-Ok-new.ensures.bytes after))

pub returns-in-Ok-new-clause-home : goal.returns-in-Ok-new-clause-home
returns-in-Ok-new-clause-home g c = λ honest.
    let after : IsTrue (g.D.Device.honest c.recover.new.device) = rw c.recover.ensures.honest honest in
    let keeps = g.met.D.Device.rests_keeps _ _ (c.in-Ok-new.ensures.ok _ (g.met.D.Device.rests_refl _)) in
    ap (λ (f : Files). f.home) (keeps.same after) ∙ sym (c.in-Ok-new.ensures.bytes after)

pub returns-in-Ok-new-clause-settled : goal.returns-in-Ok-new-clause-settled
returns-in-Ok-new-clause-settled g c = λ honest.
    let after : IsTrue (g.D.Device.honest c.recover.new.device) = rw c.recover.ensures.honest honest in
    let rests = c.in-Ok-new.ensures.ok _ (g.met.D.Device.rests_refl _) in
    settled_still g.D.Device g.met.D.Device.counts_now _ _ (g.met.D.Device.rests_leaves _ _ rests) ((g.met.D.Device.rests_keeps _ _ rests).same after) (c.in-Ok.ensures.settled honest)

pub returns-in-Ok-new-clause-honest : goal.returns-in-Ok-new-clause-honest
returns-in-Ok-new-clause-honest g c =
    let keeps = g.met.D.Device.rests_keeps _ _ (c.in-Ok-new.ensures.ok _ (g.met.D.Device.rests_refl _)) in
    sym keeps.as_honest ∙ c.recover.ensures.honest

pub returns-in-Ok-new-clause-failures : goal.returns-in-Ok-new-clause-failures
returns-in-Ok-new-clause-failures g c =
    let keeps = g.met.D.Device.rests_keeps _ _ (c.in-Ok-new.ensures.ok _ (g.met.D.Device.rests_refl _)) in
    omega (arith, c.recover.ensures.failures, keeps.counted)

pub returns-in-Err-new-clause-after_error : goal.returns-in-Err-new-clause-after_error
returns-in-Err-new-clause-after_error g c =
    let keeps = g.met.D.Device.rests_keeps _ _ (c.in-Err-new.ensures.after_error _ (g.met.D.Device.rests_refl _)) in
    let fault = c.in-Err-new.ensures.errors in
    record {
      kind = inr fault.kind;
      counted = λ is less. faults _ _ _ less c.recover.ensures.failures keeps.counted fault.counted;
    }

pub returns-in-Err-new-clause-err_honest : goal.returns-in-Err-new-clause-err_honest
returns-in-Err-new-clause-err_honest g c =
    let keeps = g.met.D.Device.rests_keeps _ _ (c.in-Err-new.ensures.after_error _ (g.met.D.Device.rests_refl _)) in
    sym keeps.as_honest ∙ c.recover.ensures.honest

pub returns-in-Err-new-clause-err_failures : goal.returns-in-Err-new-clause-err_failures
returns-in-Err-new-clause-err_failures g c =
    let keeps = g.met.D.Device.rests_keeps _ _ (c.in-Err-new.ensures.after_error _ (g.met.D.Device.rests_refl _)) in
    omega (arith, c.recover.ensures.failures, keeps.counted)

pub returns-in-Ok-new-clause-stops : goal.returns-in-Ok-new-clause-stops
returns-in-Ok-new-clause-stops g c = λ honest.
    alike_then g.D.Device g.met.D.Device.counts_now _ _ _ (c.recover.ensures.crash honest) (g.met.D.Device.rests_leaves _ _ (c.in-Ok-new.ensures.ok _ (g.met.D.Device.rests_refl _)))

pub returns-in-Err-new-clause-stops : goal.returns-in-Err-new-clause-stops
returns-in-Err-new-clause-stops g c = λ honest.
    alike_then g.D.Device g.met.D.Device.counts_now _ _ _ (c.recover.ensures.crash honest) (g.met.D.Device.rests_leaves _ _ (c.in-Err-new.ensures.after_error _ (g.met.D.Device.rests_refl _)))
