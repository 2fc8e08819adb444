use Rattle.std.proofs.Common.{◌<◌, length, arith, ap, sym, ◌∙◌, get_or}
use Rattle.std.specs.Prelude.{option_map, unwrap_or}
use Rattle.msi_pool_index.specs.Places.{empty_pool_entry, place_of}
use Rattle.msi_pool_index.specs.PoolDraft.{place_in}
use Rattle.msi_pool_index.proofs.Laid.{at_list, listed, none_added, some_added, some_listed}
use Rattle.msi_pool_index.proofs.draftparts.place_at.Goals as goal

pub returns-then-list-index-clause-some : goal.returns-then-list-index-clause-some
returns-then-list-index-clause-some c =
    let h = c.get.ensures.lookup in
    some_added (place_in c.args.changed.now) c.args.base.now.places c.args.added.now c.args.index (length c.list-list.result.now) c.get.result (listed _ _ c.list-list.ensures.list) c.if-list-index.true h.0 h.1

pub returns-then-list-index-clause-none : goal.returns-then-list-index-clause-none
returns-then-list-index-clause-none c =
    let h = c.get.ensures.lookup in
    none_added (place_in c.args.changed.now) c.args.base.now.places c.args.added.now c.args.index (length c.list-list.result.now) c.get.result (listed _ _ c.list-list.ensures.list) c.if-list-index.true h.0

pub returns-in-Some-clause-some : goal.returns-in-Some-clause-some
returns-in-Some-clause-some c =
    let ps = c.args.base.now.places in
    let inside : c.args.index < length ps = omega (arith, c.if-list-index.false, listed _ _ c.list-list.ensures.list) in
    ap (λ o. unwrap_or (option_map place_of o) (get_or ps c.args.index empty_pool_entry)) c.in-Some.ensures.value
    ∙ sym (at_list (place_in c.args.changed.now) ps c.args.added.now c.args.index inside)

pub returns-in-None-clause-some : goal.returns-in-None-clause-some
returns-in-None-clause-some c =
    some_listed (place_in c.args.changed.now) c.args.base.now.places c.args.added.now c.args.index c.list-list.result.now c.get-in-None.result c.list-list.ensures.list c.if-list-index.false
    (ap (option_map place_of) (sym c.in-None.ensures.value)) c.get-in-None.ensures.lookup.1
