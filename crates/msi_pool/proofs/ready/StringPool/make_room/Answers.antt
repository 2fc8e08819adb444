use Rattle.std.proofs.Common.{ap, ap₂, sym, subst, ◌∙◌}
use Rattle.msi_pool_index.specs.PoolDraft.{AreChangesOf, taken_over}
use Rattle.msi_pool.specs.PoolDraft.{AreChangesOver, adopted}
use Rattle.msi_pool.specs.PoolState.{PoolState}
use Rattle.msi_pool.proofs.ready.StringPool.make_room.Goals as goal

pub make_room-requires : goal.make_room-requires
unfolding AreChangesOver
make_room-requires c = subst (λ (v : PoolState). AreChangesOf v.pool.places c.args.changes.places) (sym c.self.view_is) c.requires

pub returns-in-Ok-clause-next : goal.returns-in-Ok-clause-next
unfolding adopted
returns-in-Ok-clause-next c =
    let t = c.args.changes in
    ap₂ (λ places steps. record { pool = record { page = t.codepage; long = t.long_string_refs; places = places }; modified = t.is_modified; steps = steps })
    (c.in-Ok.ensures.next ∙ ap (λ (v : PoolState). taken_over v.pool.places t.places) c.self.view_is) c.in-Ok.ensures.next_steps
