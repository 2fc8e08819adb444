use Rattle.std.proofs.Common.{Bool, IsTrue, sym, subst, arith}
use Rattle.staged.specs.Steps.{AtGate}
use Rattle.staged.specs.declared.device.Which.TheVariants.{Log}
use Rattle.staged.proofs.Reaching.{steps_then, rest_steps, steps_where, rest_lasts}
use Rattle.staged.proofs.publish.close_first.Goals as goal

pub returns-in_err-log_len-clause-steps : goal.returns-in_err-log_len-clause-steps
returns-in_err-log_len-clause-steps g c =
    rest_steps Log _ g.D.Device g.met.D.Device.counts_now _ _ c.log_len.ensures.reads.honest (g.met.D.Device.rests_leaves _ _ (c.log_len.ensures.reads.rests _ (g.met.D.Device.rests_refl _)))

pub returns-in_err-set_gate-clause-steps : goal.returns-in_err-set_gate-clause-steps
returns-in_err-set_gate-clause-steps g c =
    let rests = g.met.D.Device.rests_leaves _ _ (c.log_len.ensures.reads.rests _ (g.met.D.Device.rests_refl _)) in
    steps_where g.D.Device Log AtGate _ _ _ (λ honest at n may. (may, omega (arith, c.in_ok-log_len.ensures.length honest, c.if-branch-le1.true)))
    (steps_then Log AtGate g.D.Device g.met.D.Device.counts_now _ _ _ (rest_steps Log AtGate g.D.Device g.met.D.Device.counts_now _ _ c.log_len.ensures.reads.honest rests) c.set_gate.ensures.steps)

pub returns-in_ok-set_gate-clause-steps : goal.returns-in_ok-set_gate-clause-steps
returns-in_ok-set_gate-clause-steps g c =
    let rests = g.met.D.Device.rests_leaves _ _ (c.log_len.ensures.reads.rests _ (g.met.D.Device.rests_refl _)) in
    steps_where g.D.Device Log AtGate _ _ _ (λ honest at n may. (may, omega (arith, c.in_ok-log_len.ensures.length honest, c.if-branch-le1.true)))
    (steps_then Log AtGate g.D.Device g.met.D.Device.counts_now _ _ _ (rest_steps Log AtGate g.D.Device g.met.D.Device.counts_now _ _ c.log_len.ensures.reads.honest rests) c.set_gate.ensures.steps)

pub returns-in_ok-set_gate-clause-lasts : goal.returns-in_ok-set_gate-clause-lasts
returns-in_ok-set_gate-clause-lasts g c = λ honest lasts.
    let rests = g.met.D.Device.rests_leaves _ _ (c.log_len.ensures.reads.rests _ (g.met.D.Device.rests_refl _)) in
    c.in_ok-set_gate.ensures.lasts (subst (λ (b : Bool). IsTrue b) (sym c.log_len.ensures.reads.honest) honest) (rest_lasts g.D.Device g.met.D.Device.counts_now _ _ rests (c.log_len.ensures.reads.same honest) lasts)

pub returns-else-branch-le1-clause-steps : goal.returns-else-branch-le1-clause-steps
returns-else-branch-le1-clause-steps g c =
    rest_steps Log _ g.D.Device g.met.D.Device.counts_now _ _ c.log_len.ensures.reads.honest (g.met.D.Device.rests_leaves _ _ (c.log_len.ensures.reads.rests _ (g.met.D.Device.rests_refl _)))

pub returns-else-branch-le1-clause-lasts : goal.returns-else-branch-le1-clause-lasts
returns-else-branch-le1-clause-lasts g c = λ honest lasts.
    let rests = g.met.D.Device.rests_leaves _ _ (c.log_len.ensures.reads.rests _ (g.met.D.Device.rests_refl _)) in
    rest_lasts g.D.Device g.met.D.Device.counts_now _ _ rests (c.log_len.ensures.reads.same honest) lasts
