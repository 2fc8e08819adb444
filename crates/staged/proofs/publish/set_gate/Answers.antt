use Rattle.std.proofs.Common.{Bool, IsTrue, refl, sym, subst, ap, ◌∙◌}
use Rattle.std.proofs.lemmas.Result.{on_ok_weaker}
use Rattle.staged.specs.Files.{Files}
use Rattle.staged.specs.Steps.{AtGate}
use Rattle.staged.specs.declared.device.Which.TheVariants.{Log}
use Rattle.staged.proofs.Reaching.{write_steps, steps_then, rest_steps, lasts_after}
use Rattle.staged.proofs.Steps.{same_files}
use Rattle.staged.proofs.publish.set_gate.Goals as goal

pub returns-in_err-write_at-clause-steps : goal.returns-in_err-write_at-clause-steps
returns-in_err-write_at-clause-steps g c = write_steps Log AtGate g.D.Device g.met.D.Device.counts_now 0 1 _ _ (refl, refl) c.write_at.ensures.honest c.write_at.ensures.leaves

pub returns-clause-steps : goal.returns-clause-steps
returns-clause-steps g c =
    let counts = g.met.D.Device.counts_now in
    steps_then Log AtGate g.D.Device counts _ _ _
    (write_steps Log AtGate g.D.Device counts 0 1 _ _ (refl, refl) c.write_at.ensures.honest c.write_at.ensures.leaves)
    (rest_steps Log AtGate g.D.Device counts _ _ c.sync.ensures.reads.honest (g.met.D.Device.rests_leaves _ _ (c.sync.ensures.reads.rests _ (g.met.D.Device.rests_refl _))))

pub returns-clause-lasts : goal.returns-clause-lasts
returns-clause-lasts g c = λ honest.
    let after = subst (λ (b : Bool). IsTrue b) (sym c.write_at.ensures.honest) honest in
    on_ok_weaker c.sync.result (λ kept lasts. lasts_after Log AtGate g.D.Device g.met.D.Device.counts_now _ _ (returns-clause-steps g c) honest lasts kept
    (same_files (g.D.Device.content c.sync.new.device) _ _ (ap (λ (f : Files). f.home) (c.sync.ensures.reads.same after ∙ c.in_ok-write_at.ensures.written honest)) refl)) (c.sync.ensures.kept after)
