use Rattle.std.proofs.Common.{◌<◌, length, arith, rules}
use Rattle.msi_pool_index.specs.PoolDraft.{place_in}
use Rattle.msi_pool_index.proofs.Laid.{added_inside, added_written, list_written, listed}
use Rattle.msi_pool_index.proofs.draftparts.DraftPartsPoolParts.write.Goals as goal

pub index_mut-requires : goal.index_mut-requires
index_mut-requires c =
    let d = c.args.self.now in
    let inside = added_inside (place_in d.changes.changed) d.base.now.places d.changes.added.items c.args.index (length c.list-first_added.result.now) (listed _ _ c.list-first_added.ensures.list) c.if-index-first_added.false c.requires.inside in
    search rules

pub returns-then-index-first_added-clause-places : goal.returns-then-index-first_added-clause-places
returns-then-index-first_added-clause-places c =
    let d = c.args.self.now in
    let inside : c.args.index < length d.base.now.places = omega (arith, c.if-index-first_added.true, listed _ _ c.list-first_added.ensures.list) in
    list_written (place_in d.changes.changed) d.base.now.places d.changes.added.items (place_in c.write_changed.new.changed) c.args.index _ inside c.write_changed.ensures

pub returns-else-index-first_added-clause-places : goal.returns-else-index-first_added-clause-places
returns-else-index-first_added-clause-places c =
    let d = c.args.self.now in
    added_written (place_in d.changes.changed) d.base.now.places d.changes.added.items c.args.index (length c.list-first_added.result.now) (c.args.text, c.args.count) (listed _ _ c.list-first_added.ensures.list) c.if-index-first_added.false
