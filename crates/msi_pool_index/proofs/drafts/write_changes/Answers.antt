use Rattle.std.proofs.Common.{rules, ap, ◌∙◌, sym}
use Rattle.std.specs.Prelude.{◌&&◌, not}
use Rattle.msi_pool_index.specs.Places.{places_of}
use Rattle.msi_pool_index.specs.PoolDraft.{below, laid, place_in, takes_place}
use Rattle.msi_pool_index.specs.PoolParts.{has_place}
use Rattle.msi_pool_index.proofs.Laid.{free_moved, laid-none, list_moved, list_passed, none_below, past_none}
use Rattle.msi_pool_index.proofs.Rooms.{nothing_in}
use Rattle.msi_pool_index.proofs.drafts.write_changes.Goals as goal

pub loop-index-preserved-then-index-end : goal.loop-index-preserved-then-index-end
loop-index-preserved-then-index-end c = record {
  list =
      ap (λ items. laid (below c.args.end (place_in c.pop_first.new.self)) (places_of items)) c.write_change.ensures.list
      ∙ list_moved c.loop-index.changed c.pop_first.new.self c.in-Some.index c.in-Some.entry c.in-Some.ensures.value c.in-Some.ensures.updates c.args.end c.if-index-end.true c.loop-index.list.items ∙ c.loop-index.invariant.list;
  free = λ i. free_moved c.loop-index.changed c.pop_first.new.self c.in-Some.index c.in-Some.entry c.in-Some.ensures.value c.in-Some.ensures.updates c.args.end c.if-index-end.true (has_place c.loop-index.free) (has_place c.write_change.new.free) c.write_change.ensures.free i ∙ c.loop-index.invariant.free i;
}

pub loop-index-preserved : goal.loop-index-preserved
loop-index-preserved c = record {
  list = list_passed c.loop-index.changed c.pop_first.new.self c.in-Some.index c.in-Some.entry c.in-Some.ensures.value c.in-Some.ensures.updates c.args.end c.if-index-end.false (places_of c.loop-index.list.items) ∙ c.loop-index.invariant.list;
  free = λ i. ap (λ o. has_place c.loop-index.free i && not (takes_place o)) (past_none c.loop-index.changed c.pop_first.new.self c.in-Some.index c.in-Some.entry c.in-Some.ensures.value c.in-Some.ensures.updates c.args.end c.if-index-end.false i) ∙ c.loop-index.invariant.free i;
}

pub returns-clause-list : goal.returns-clause-list
returns-clause-list c =
    let empty = nothing_in c.loop-index.changed.entries (search rules) in
    sym (laid-none (below c.args.end (place_in c.loop-index.changed)) (places_of c.loop-index.list.items) (none_below c.loop-index.changed c.args.end empty)) ∙ c.loop-index.invariant.list
