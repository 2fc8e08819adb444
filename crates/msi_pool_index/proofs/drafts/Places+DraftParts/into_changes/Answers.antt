use Rattle.std.proofs.Common.{ap, sym, subst, ◌∙◌}
use Rattle.msi_pool_index.specs.PoolDraft.{AreChangesOf, taken_over, over}
use Rattle.msi_pool_index.specs.PoolIndex.{Counted, PoolIndexMatches}
use Rattle.msi_pool_index.proofs.AfterSteps.{indexed_before}
use Rattle.msi_pool_index.proofs.drafts.Places+DraftParts.into_changes.Goals as goal

pub returns-clause-changes : goal.returns-clause-changes
unfolding AreChangesOf
returns-clause-changes c =
    let d = c.self.inside.parts in
    subst (λ (v : Counted). PoolIndexMatches (over v.under.places d.changes)) c.self.view_is (indexed_before (over d.base.now.places d.changes) _ _ c.self.invariant)

pub returns-clause-places : goal.returns-clause-places
unfolding taken_over
returns-clause-places c = ap (λ (v : Counted). (over v.under.places c.self.inside.parts.changes).places) (sym c.self.view_is) ∙ ap (λ (v : Counted). v.places) c.self.view_is
