use Rattle.std.proofs.Common.{◌+◌, ◌<◌, ◌/◌, ◌%◌, ◌++◌, length, take, drop, sym, ap, subst, ◌∙◌, arith}
use Rattle.cfb_fat_runs.specs.BlockLen.{most_runs}
use Rattle.cfb_fat_runs.specs.Blocks.{runs_in}
use Rattle.cfb_fat_runs.specs.RunLists.{all_runs}
use Rattle.cfb_fat_runs.proofs.Blocked.{block_there, joined_long, less_there, place_there, run_removed}
use Rattle.cfb_fat_runs.proofs.run_list.RunList.remove.Goals as goal

pub index_mut-requires : goal.index_mut-requires
unfolding all_runs
index_mut-requires c =
    let it = c.args.self.now in
    let long = joined_long it.len it.blocks.items it.filled it.inside in
    let there = block_there it.len c.args.place it.blocks.items it.inside (omega (arith, long, c.requires)) in
    omega (arith, there, it.blocks.ok.0)

pub remove-requires : goal.remove-requires
unfolding all_runs
remove-requires c =
    let it = c.args.self.now in
    let long = joined_long it.len it.blocks.items it.filled it.inside in
    let there = place_there it.len c.args.place it.blocks.items c.index_mut.result.now it.filled it.inside (omega (arith, long, c.requires)) in
    subst (λ b. c.args.place % most_runs < length (runs_in b)) (sym c.index_mut.ensures.value) there

pub gather-requires-clause-some : goal.gather-requires-clause-some
unfolding all_runs
gather-requires-clause-some c =
    let it = c.args.self.now in
    let long = joined_long it.len it.blocks.items it.filled it.inside in
    omega (arith, long, c.requires)

pub gather-requires-clause-start : goal.gather-requires-clause-start
unfolding all_runs
gather-requires-clause-start c =
    let it = c.args.self.now in
    let long = joined_long it.len it.blocks.items it.filled it.inside in
    omega (arith, long, c.requires)

pub gather-requires-clause-less : goal.gather-requires-clause-less
unfolding all_runs
gather-requires-clause-less c =
    let it = c.args.self.now in
    let long = joined_long it.len it.blocks.items it.filled it.inside in
    let place = c.args.place in
    let less : place < it.len = omega (arith, long, c.requires) in
    let block = c.index_mut.result.now in
    less_there it.len (place / most_runs) (place % most_runs) it.blocks.items block c.remove.new.self it.filled (block_there it.len place it.blocks.items it.inside less)
    (place_there it.len place it.blocks.items block it.filled it.inside less)
    (c.remove.ensures ∙ ap (λ b. take (place % most_runs) (runs_in b) ++ drop (place % most_runs + 1) (runs_in b)) c.index_mut.ensures.value)

pub overflow_sub-self : goal.overflow_sub-self
unfolding all_runs
overflow_sub-self c =
    let it = c.args.self.now in
    let long = joined_long it.len it.blocks.items it.filled it.inside in
    omega (arith, long, c.requires)

pub returns-clause-runs : goal.returns-clause-runs
unfolding all_runs
returns-clause-runs c =
    let it = c.args.self.now in
    let long = joined_long it.len it.blocks.items it.filled it.inside in
    let place = c.args.place in
    c.gather.ensures.runs
    ∙ run_removed it.len place it.blocks.items c.index_mut.result.now c.remove.new.self it.filled it.inside (omega (arith, long, c.requires))
    (c.remove.ensures ∙ ap (λ b. take (place % most_runs) (runs_in b) ++ drop (place % most_runs + 1) (runs_in b)) c.index_mut.ensures.value)
