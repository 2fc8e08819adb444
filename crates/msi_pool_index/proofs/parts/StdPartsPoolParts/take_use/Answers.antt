use Rattle.std.proofs.Common.{◌<◌, length, ap, sym, ◌∙◌}
use Rattle.std.specs.Prelude.{slice_set}
use Rattle.std.proofs.lemmas.List.{map-set, get_or-map, length-map}
use Rattle.msi_pool_index.specs.Places.{places_of, place_of, empty_pool_entry, released_entry}
use Rattle.msi_pool_index.proofs.parts.StdPartsPoolParts.take_use.Goals as goal

pub returns-clause-places : goal.returns-clause-places
returns-clause-places c =
    let items = c.args.self.now.list.items in
    let kept = c.index_mut.result.now in
    let inside : c.args.index < length items = rw length-map at c.requires.inside in
    let is = get_or-map place_of items c.args.index kept empty_pool_entry inside ∙ ap place_of (sym c.index_mut.ensures.value) in
    map-set place_of items c.args.index c.take_one.new.entry
    ∙ ap (slice_set (places_of items) c.args.index) (c.take_one.ensures ∙ ap released_entry (sym is))
