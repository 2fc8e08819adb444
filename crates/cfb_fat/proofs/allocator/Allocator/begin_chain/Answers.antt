use Rattle.std.proofs.Common.{[], ◌∷◌, inl, inr, ⊎_elim}
use Rattle.std.proofs.lemmas.Result.{IfErr-weaker}
use Rattle.cfb_fat.specs.Calls.{AllocatesOneSector}
use Rattle.cfb_fat.proofs.GrowthSteps.{ok_both, ok_map}
use Rattle.cfb_fat.proofs.Leaving.{takes_leave}
use Rattle.cfb_fat.proofs.Taken.{takes_begun}
use Rattle.cfb_fat.proofs.allocator.Allocator.begin_chain.Goals as goal

pub returns-clause-chain : goal.returns-clause-chain
returns-clause-chain g c = ok_map c.take.result (AllocatesOneSector c.args.init c.args.self.now c.take.new.self) _ c.take.ensures.takes (λ n one. one.chain)

pub returns-clause-fresh : goal.returns-clause-fresh
returns-clause-fresh g c = ok_map c.take.result (AllocatesOneSector c.args.init c.args.self.now c.take.new.self) _ c.take.ensures.takes (λ n one. one.occupies.fresh)

pub returns-clause-appended : goal.returns-clause-appended
returns-clause-appended g c = ok_map c.take.result (AllocatesOneSector c.args.init c.args.self.now c.take.new.self) _ c.take.ensures.takes (λ n one. one.appended)

pub returns-clause-takes : goal.returns-clause-takes
returns-clause-takes g c =
    let it = c.args.self.now in
    let now = c.take.new.self in
    ok_map c.take.result (AllocatesOneSector c.args.init it now) _ c.take.ensures.takes (λ n one. takes_begun c.args.init n it now one)

pub returns-clause-leaves : goal.returns-clause-leaves
returns-clause-leaves g c =
    let it = c.args.self.now in
    let now = c.take.new.self in
    ok_both c.take.result (AllocatesOneSector c.args.init it now) _ _ c.take.ensures.takes c.take.ensures.tries.live
    (λ n one live honest. takes_leave (n ∷ []) (n ∷ []) it now (takes_begun c.args.init n it now one) live honest)

pub returns-clause-spends : goal.returns-clause-spends
returns-clause-spends g c = λ n memory. let did = c.take.ensures.spends n memory in (did.0, IfErr-weaker c.take.result _ _ (λ e. ⊎_elim (λ failed. inl failed) (λ full. inr (inr full))) did.1)
