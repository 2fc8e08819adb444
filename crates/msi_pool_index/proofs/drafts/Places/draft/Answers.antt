use Rattle.std.proofs.Common.{◌<◌, ◌^◌, length, refl, subst}
use Rattle.msi_pool_index.specs.PoolIndex.{Counted}
use Rattle.msi_pool_index.proofs.AfterSteps.{still_indexed}
use Rattle.msi_pool_index.proofs.Fresh.{fresh_indexed, fresh_places}
use Rattle.msi_pool_index.proofs.drafts.Places.draft.Goals as goal

pub invariant_of-result : goal.invariant_of-result
invariant_of-result c =
    still_indexed _ _ c.none.result.count (fresh_indexed c.args.self.now.places (record { changed = c.new.result; added = c.new-2.result; given = c.new-3.result; passed = 0; room = c.new-4.result; below = c.and.result }) c.new.ensures.empty c.new-2.ensures.items c.new-3.ensures.empty refl c.new-4.ensures.empty
    (subst (λ (v : Counted). length v.places < 2 ^ 32) c.self.view_is c.self.invariant.few))

pub returns-clause-same : goal.returns-clause-same
returns-clause-same c = fresh_places c.args.self.now.places (record { changed = c.new.result; added = c.new-2.result; given = c.new-3.result; passed = 0; room = c.new-4.result; below = c.and.result }) c.new.ensures.empty c.new-2.ensures.items c.new-3.ensures.empty refl c.new-4.ensures.empty
