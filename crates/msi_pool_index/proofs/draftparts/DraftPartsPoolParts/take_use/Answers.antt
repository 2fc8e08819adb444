use Rattle.std.proofs.Common.{◌<◌, length, arith, ap, sym, ◌∙◌, rules}
use Rattle.std.specs.Prelude.{slice_set}
use Rattle.msi_pool_index.specs.Places.{PoolEntry, released_entry, place_of}
use Rattle.msi_pool_index.specs.PoolDraft.{place_in, over}
use Rattle.msi_pool_index.proofs.Laid.{added_inside, added_written, at_added, list_taken, list_used, listed}
use Rattle.msi_pool_index.proofs.draftparts.DraftPartsPoolParts.take_use.Goals as goal

pub take_changed-requires-clause-used : goal.take_changed-requires-clause-used
take_changed-requires-clause-used c =
    let d = c.args.self.now in
    let inside : c.args.index < length d.base.now.places = omega (arith, c.if-index-first_added.true, listed _ _ c.list-first_added.ensures.list) in
    list_used (place_in d.changes.changed) d.base.now.places d.changes.added.items c.args.index inside c.requires.used

pub index_mut-requires : goal.index_mut-requires
index_mut-requires c =
    let d = c.args.self.now in
    let inside = added_inside (place_in d.changes.changed) d.base.now.places d.changes.added.items c.args.index (length c.list-first_added.result.now) (listed _ _ c.list-first_added.ensures.list) c.if-index-first_added.false c.requires.inside in
    search rules

pub take_one-requires : goal.take_one-requires
take_one-requires c =
    let d = c.args.self.now in
    let is = at_added (place_in d.changes.changed) d.base.now.places d.changes.added.items c.args.index (length c.list-first_added.result.now) c.index_mut.result.now (listed _ _ c.list-first_added.ensures.list) c.if-index-first_added.false c.requires.inside in
    let held = ap (λ (p : PoolEntry). p.count) (is ∙ ap place_of (sym c.index_mut.ensures.value)) in
    omega (arith, held, c.requires.used)

pub returns-then-index-first_added-clause-places : goal.returns-then-index-first_added-clause-places
returns-then-index-first_added-clause-places c =
    let d = c.args.self.now in
    let inside : c.args.index < length d.base.now.places = omega (arith, c.if-index-first_added.true, listed _ _ c.list-first_added.ensures.list) in
    list_taken (place_in d.changes.changed) d.base.now.places d.changes.added.items (place_in c.take_changed.new.changed) c.args.index inside (search rules) c.take_changed.ensures

pub returns-else-index-first_added-clause-places : goal.returns-else-index-first_added-clause-places
returns-else-index-first_added-clause-places c =
    let d = c.args.self.now in
    let same = listed _ _ c.list-first_added.ensures.list in
    let is = at_added (place_in d.changes.changed) d.base.now.places d.changes.added.items c.args.index (length c.list-first_added.result.now) c.index_mut.result.now same c.if-index-first_added.false c.requires.inside in
    added_written (place_in d.changes.changed) d.base.now.places d.changes.added.items c.args.index (length c.list-first_added.result.now) c.take_one.new.entry same c.if-index-first_added.false
    ∙ ap (slice_set (over d.base.now.places d.changes).places c.args.index) (c.take_one.ensures ∙ ap released_entry (sym (is ∙ ap place_of (sym c.index_mut.ensures.value))))
