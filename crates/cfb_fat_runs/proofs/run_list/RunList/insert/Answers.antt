use Rattle.std.proofs.Common.{◌+◌, ◌<◌, ◌≤◌, ◌*◌, ◌/◌, ◌%◌, length, sym, ap, subst, ◌∙◌, arith}
use Rattle.std.specs.List.{insert}
use Rattle.std.proofs.lemmas.List.{length-set}
use Rattle.cfb_fat_runs.specs.BlockLen.{most_runs}
use Rattle.cfb_fat_runs.specs.Blocks.{count_in, runs_in}
use Rattle.cfb_fat_runs.specs.RunLists.{all_runs, room_for_runs}
use Rattle.cfb_fat_runs.proofs.Blocked.{filled_more, joined_long, run_inserted}
use Rattle.cfb_fat_runs.proofs.run_list.RunList.insert.Goals as goal

pub insert-requires-clause-inside : goal.insert-requires-clause-inside
unfolding all_runs room_for_runs
insert-requires-clause-inside c =
    let it = c.args.self.now in
    let long = joined_long it.len it.blocks.items it.filled it.inside in
    let le : c.args.place ≤ it.len = omega (arith, long, c.requires.inside) in
    let there : c.args.place / most_runs < length it.blocks.items = omega (arith, long, le, c.requires.room) in
    let here = it.filled (c.args.place / most_runs) c.index_mut.result.now there in
    let within : c.args.place % most_runs ≤ count_in it.blocks.items (c.args.place / most_runs) c.index_mut.result.now = omega (arith, here, le) in
    subst (λ b. c.args.place % most_runs ≤ length (runs_in b)) (sym c.index_mut.ensures.value) within

pub spread-requires-clause-inside : goal.spread-requires-clause-inside
unfolding all_runs room_for_runs
spread-requires-clause-inside c =
    let it = c.args.self.now in
    let long = joined_long it.len it.blocks.items it.filled it.inside in
    let size = length-set it.blocks.items (c.args.place / most_runs) c.insert.new.self in
    omega (arith, long, size, c.requires.room)

pub spread-requires-clause-start : goal.spread-requires-clause-start
unfolding all_runs
spread-requires-clause-start c =
    let it = c.args.self.now in
    let long = joined_long it.len it.blocks.items it.filled it.inside in
    omega (arith, long, c.requires.inside)

pub invariant_of-self : goal.invariant_of-self
unfolding all_runs room_for_runs
invariant_of-self c =
    let it = c.args.self.now in
    let long = joined_long it.len it.blocks.items it.filled it.inside in
    let size = c.spread.ensures.size in
    let same = length-set it.blocks.items (c.args.place / most_runs) c.insert.new.self in
    record {
      filled = filled_more it.len c.spread.new.blocks.items c.spread.ensures.more;
      inside = omega (arith, long, size, same, c.requires.room);
      few = omega (arith, size, same, it.few);
    }

pub returns-clause-runs : goal.returns-clause-runs
unfolding all_runs room_for_runs
returns-clause-runs c =
    let it = c.args.self.now in
    let long = joined_long it.len it.blocks.items it.filled it.inside in
    let place = c.args.place in
    let less : it.len < length it.blocks.items * most_runs = omega (arith, long, c.requires.room) in
    c.spread.ensures.runs
    ∙ run_inserted it.len place it.blocks.items c.index_mut.result.now c.insert.new.self c.args.run it.filled less (omega (arith, long, c.requires.inside))
    (c.insert.ensures ∙ ap (λ b. insert (runs_in b) (place % most_runs) c.args.run) c.index_mut.ensures.value)
