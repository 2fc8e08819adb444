use Rattle.std.proofs.Common.{Bool, IsTrue, subst}
use Rattle.staged.proofs.Settling.{settled_still}
use Rattle.staged.proofs.staged.Staged.new.Goals as goal

pub invariant_of-result-clause-settled : goal.invariant_of-result-clause-settled
invariant_of-result-clause-settled g c = λ honest sound.
    let was = subst (λ (b : Bool). IsTrue b) c.len.ensures.honest honest in
    settled_still g.D.Device g.met.D.Device.counts_now _ _ (g.met.D.Device.rests_leaves _ _ (c.len.ensures.only_reads _ (g.met.D.Device.rests_refl _))) (c.len.ensures.same was) (c.requires was)
