use Rattle.std.proofs.Common.{ap, cond, rules, ◌∙◌}
use Rattle.std.specs.Prelude.{Some, ◌==◌}
use Rattle.msi_pool_index.specs.PoolDraft.{place_in}
use Rattle.msi_pool_index.proofs.Laid.{laid_held, place_after}
use Rattle.msi_pool_index.proofs.draftparts.hold_place.Goals as goal

pub returns-in_ok-insert-in-Some-clause-same : goal.returns-in_ok-insert-in-Some-clause-same
returns-in_ok-insert-in-Some-clause-same c =
    let h = c.in-Some.ensures.lookup in
    let held = place_after c.args.changed.now c.insert.new.self c.args.index _ c.in_ok-insert-in-Some.ensures.updates in
    laid_held (place_in c.args.changed.now) (place_in c.insert.new.self) c.list.result.now c.args.base.now.places c.args.index c.in-Some.field-0.now c.list.ensures.list h.3.0 (search rules) h.1
    (λ k. held k ∙ ap (λ t. cond (k == c.args.index) (Some (record { text = t; count = c.in-Some.field-0.now.1 })) (place_in c.args.changed.now k)) (c.in_ok-from_str-in-Some.ensures.ok ∙ c.deref.ensures))
