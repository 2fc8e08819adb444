use Rattle.std.proofs.Common.{ap, ap₂, sym, subst, ◌∙◌}
use Rattle.msi_pool_index.specs.PoolDraft.{AreChangesOf, taken_over}
use Rattle.msi_pool.specs.PoolDraft.{AreChangesOver, adopted}
use Rattle.msi_pool.specs.PoolState.{PoolState}
use Rattle.msi_pool.proofs.stringpool.StringPool.adopt.Goals as goal

pub adopt-requires : goal.adopt-requires
unfolding AreChangesOver
adopt-requires c = subst (λ (v : PoolState). AreChangesOf v.pool.places c.args.changes.places) (sym c.self.view_is) c.requires

pub returns-clause-ok : goal.returns-clause-ok
unfolding adopted
returns-clause-ok c =
    let t = c.args.changes in
    ap₂ (λ places steps. record { pool = record { page = t.codepage; long = t.long_string_refs; places = places }; modified = t.is_modified; steps = steps })
    (c.in_ok-adopt.ensures.ok ∙ ap (λ (v : PoolState). taken_over v.pool.places t.places) c.self.view_is) c.in_ok-adopt.ensures.steps
