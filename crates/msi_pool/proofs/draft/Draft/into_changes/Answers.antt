use Rattle.std.proofs.Common.{◌≡◌, ap₂, subst}
use Rattle.msi_pool_index.specs.PoolDraft.{AreChangesOf, taken_over}
use Rattle.msi_pool.specs.PoolDraft.{AreChangesOver, adopted}
use Rattle.msi_pool.specs.PoolState.{Drafted}
use Rattle.msi_pool.proofs.draft.Draft.into_changes.Goals as goal

pub returns-clause-changes : goal.returns-clause-changes
unfolding AreChangesOver
returns-clause-changes c = subst (λ (v : Drafted). AreChangesOf v.under c.into_changes.result) c.self.view_is c.into_changes.ensures.changes

pub returns-clause-state : goal.returns-clause-state
unfolding adopted
returns-clause-state c =
    let d = c.self.inside in
    subst (λ (v : Drafted). record { pool = record { page = d.codepage; long = d.long_string_refs; places = taken_over v.under c.into_changes.result }; modified = d.is_modified; steps = c.into_changes.result.below.count } ≡ v.state) c.self.view_is
    (ap₂ (λ places steps. record { pool = record { page = d.codepage; long = d.long_string_refs; places = places }; modified = d.is_modified; steps = steps }) c.into_changes.ensures.places c.into_changes.ensures.steps)
