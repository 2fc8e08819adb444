use Rattle.std.proofs.Common.{◌≡◌, ◌<◌, ◌^◌, length, refl, ap, sym, subst, ◌∙◌}
use Rattle.std.proofs.lemmas.List.{length-map, map-append}
use Rattle.msi_pool_index.specs.Places.{place_of, places_of}
use Rattle.msi_pool_index.specs.PoolDraft.{AreChangesOf, below, laid, place_in, taken_over}
use Rattle.msi_pool_index.specs.PoolIndex.{PoolIndexMatches, PoolIndexParts, is_free, none_under, passes_at}
use Rattle.msi_pool_index.specs.PoolParts.{has_place, has_room, parts_of}
use Rattle.msi_pool_index.specs.PoolReady.{Ready}
use Rattle.msi_pool_index.proofs.Adopted.{adopted, adopted_places}
use Rattle.msi_pool_index.proofs.ready.ReadyPlaces.adopt.Goals as goal

pub invariant_of-result : goal.invariant_of-result
unfolding AreChangesOf
invariant_of-result c =
    let own = c.self.inside.parts in
    let changes = c.self.inside.changes in
    let seen : PoolIndexParts = record { places = places_of own.list.items; under = none_under; free = passes_at is_free (places_of own.list.items); room = has_room own.room; steps = 0 } in
    let same = length-map own.list.items place_of in
    let few : length (places_of own.list.items) < 2 ^ 32 = subst (λ n. n < 2 ^ 32) (sym same) c.self.invariant.few in
    let indexed : PoolIndexMatches seen = record { few = few; frees = λ i. refl; rooms = c.self.invariant.rooms } in
    let new = parts_of (places_of c.write_changes.new.list.items) c.write_changes.new.free c.put_rooms.new.room changes.below.count in
    let ends : c.len-end.result ≡ length (places_of own.list.items) = cc in
    adopted seen indexed changes c.self.invariant.changes new c.len-end.result ends (has_place own.free) c.self.invariant.frees
    (c.write_changes.ensures.list ∙ ap (λ items. laid (below c.len-end.result (place_in changes.changed)) (places_of items)) c.add_to_list.ensures
    ∙ ap (laid (below c.len-end.result (place_in changes.changed))) (map-append place_of own.list.items changes.added.items)
    ∙ adopted_places seen indexed changes c.self.invariant.changes new c.len-end.result ends)
    c.write_changes.ensures.free
    c.put_rooms.ensures

pub returns-clause-places : goal.returns-clause-places
unfolding AreChangesOf taken_over
returns-clause-places c =
    let own = c.self.inside.parts in
    let changes = c.self.inside.changes in
    let seen : PoolIndexParts = record { places = places_of own.list.items; under = none_under; free = passes_at is_free (places_of own.list.items); room = has_room own.room; steps = 0 } in
    let same = length-map own.list.items place_of in
    let few : length (places_of own.list.items) < 2 ^ 32 = subst (λ n. n < 2 ^ 32) (sym same) c.self.invariant.few in
    let indexed : PoolIndexMatches seen = record { few = few; frees = λ i. refl; rooms = c.self.invariant.rooms } in
    let new = parts_of (places_of c.write_changes.new.list.items) c.write_changes.new.free c.put_rooms.new.room changes.below.count in
    let ends : c.len-end.result ≡ length (places_of own.list.items) = cc in
    c.write_changes.ensures.list ∙ ap (λ items. laid (below c.len-end.result (place_in changes.changed)) (places_of items)) c.add_to_list.ensures
    ∙ ap (laid (below c.len-end.result (place_in changes.changed))) (map-append place_of own.list.items changes.added.items)
    ∙ adopted_places seen indexed changes c.self.invariant.changes new c.len-end.result ends
    ∙ ap (λ (v : Ready). v.next) c.self.view_is
