use Rattle.std.proofs.Common.{◌≡◌, ap, sym, subst, ◌∙◌, length}
use Rattle.std.specs.Option.{option_map_or}
use Rattle.std.specs.BTreeMap.{get_by_text}
use Rattle.std.proofs.lemmas.List.{length-map, map-append}
use Rattle.msi_pool_index.specs.Places.{place_of, places_of}
use Rattle.msi_pool_index.specs.PoolDraft.{AreChangesOf, below, laid, over, place_in, taken_over}
use Rattle.msi_pool_index.specs.PoolIndex.{Counted, PoolIndexMatches}
use Rattle.msi_pool_index.specs.PoolParts.{has_place, parts_of}
use Rattle.msi_pool_index.proofs.Adopted.{adopted, adopted_places}
use Rattle.msi_pool_index.proofs.drafts.Places.adopt.Goals as goal

pub invariant_of-self-2 : goal.invariant_of-self-2
unfolding AreChangesOf
invariant_of-self-2 c =
    let base = c.self.inside.parts in
    let seen = parts_of (places_of base.list.items) base.free base.room base.steps.count in
    let indexed : PoolIndexMatches (over seen.places c.args.changes) = subst (λ (v : Counted). PoolIndexMatches (over v.places c.args.changes)) (sym c.self.view_is) c.requires in
    let new = parts_of (places_of c.write_changes.new.list.items) c.write_changes.new.free c.put_rooms.new.room c.args.changes.below.count in
    let same = length-map base.list.items place_of in
    let ends : c.len-end.result ≡ length (places_of base.list.items) = cc in
    adopted seen c.self.invariant c.args.changes indexed new c.len-end.result ends (has_place c.hold_added.new.free) c.in_ok-hold_added.ensures.free
    (c.write_changes.ensures.list ∙ ap (λ items. laid (below c.len-end.result (place_in c.args.changes.changed)) (places_of items)) c.in_ok-hold_added.ensures.list
    ∙ ap (laid (below c.len-end.result (place_in c.args.changes.changed))) (map-append place_of base.list.items c.args.changes.added.items)
    ∙ adopted_places seen c.self.invariant c.args.changes indexed new c.len-end.result ends)
    c.write_changes.ensures.free
    (λ t i. c.put_rooms.ensures t i ∙ ap (option_map_or (λ s. has_place s i) (get_by_text c.args.changes.room t)) (c.in_ok-hold_texts.ensures.same t i))

pub returns-clause-ok : goal.returns-clause-ok
unfolding AreChangesOf taken_over
returns-clause-ok c =
    let base = c.self.inside.parts in
    let seen = parts_of (places_of base.list.items) base.free base.room base.steps.count in
    let indexed : PoolIndexMatches (over seen.places c.args.changes) = subst (λ (v : Counted). PoolIndexMatches (over v.places c.args.changes)) (sym c.self.view_is) c.requires in
    let new = parts_of (places_of c.write_changes.new.list.items) c.write_changes.new.free c.put_rooms.new.room c.args.changes.below.count in
    let same = length-map base.list.items place_of in
    let ends : c.len-end.result ≡ length (places_of base.list.items) = cc in
    c.write_changes.ensures.list ∙ ap (λ items. laid (below c.len-end.result (place_in c.args.changes.changed)) (places_of items)) c.in_ok-hold_added.ensures.list
    ∙ ap (laid (below c.len-end.result (place_in c.args.changes.changed))) (map-append place_of base.list.items c.args.changes.added.items)
    ∙ adopted_places seen c.self.invariant c.args.changes indexed new c.len-end.result ends
    ∙ ap (λ (v : Counted). (over v.places c.args.changes).places) c.self.view_is

pub returns-clause-few : goal.returns-clause-few
unfolding AreChangesOf
returns-clause-few c = (invariant_of-self-2 c).few
