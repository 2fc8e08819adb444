use Rattle.std.proofs.Common.{◌<◌, ◌/◌, ◌%◌, length, sym, ap, subst, ◌∙◌, arith}
use Rattle.std.proofs.Math.ListN.{set}
use Rattle.cfb_fat_runs.specs.BlockLen.{most_runs}
use Rattle.cfb_fat_runs.specs.Blocks.{runs_in}
use Rattle.cfb_fat_runs.specs.RunLists.{all_runs}
use Rattle.cfb_fat_runs.proofs.Blocked.{block_there, joined_long, place_there, run_set}
use Rattle.cfb_fat_runs.proofs.run_list.RunList.set.Goals as goal

pub index_mut-requires : goal.index_mut-requires
unfolding all_runs
index_mut-requires c =
    let it = c.args.self.now in
    let long = joined_long it.len it.blocks.items it.filled it.inside in
    let there = block_there it.len c.args.place it.blocks.items it.inside (omega (arith, long, c.requires)) in
    omega (arith, there, it.blocks.ok.0)

pub set-requires : goal.set-requires
unfolding all_runs
set-requires c =
    let it = c.args.self.now in
    let long = joined_long it.len it.blocks.items it.filled it.inside in
    let there = place_there it.len c.args.place it.blocks.items c.index_mut.result.now it.filled it.inside (omega (arith, long, c.requires)) in
    subst (λ b. c.args.place % most_runs < length (runs_in b)) (sym c.index_mut.ensures.value) there

pub returns-clause-runs : goal.returns-clause-runs
unfolding all_runs
returns-clause-runs c =
    let it = c.args.self.now in
    let long = joined_long it.len it.blocks.items it.filled it.inside in
    run_set it.len c.args.place it.blocks.items c.index_mut.result.now c.set.new.self c.args.run it.filled it.inside (omega (arith, long, c.requires))
    (c.set.ensures ∙ ap (λ b. set (runs_in b) (c.args.place % most_runs) c.args.run) c.index_mut.ensures.value)
