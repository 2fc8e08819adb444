use Rattle.std.proofs.Common.{◌<◌, ◌/◌, ◌%◌, length, get_or, sym, ap, subst, ◌∙◌, arith}
use Rattle.cfb_fat_runs.specs.BlockLen.{most_runs}
use Rattle.cfb_fat_runs.specs.Blocks.{joined_runs, runs_in}
use Rattle.cfb_fat_runs.specs.RunLists.{all_runs}
use Rattle.cfb_fat_runs.proofs.Blocked.{block_there, joined_long, place_there, run_read}
use Rattle.cfb_fat_runs.proofs.run_list.RunList.get.Goals as goal

pub index-requires : goal.index-requires
unfolding all_runs
index-requires c =
    let it = c.args.self.now in
    let long = joined_long it.len it.blocks.items it.filled it.inside in
    let there = block_there it.len c.args.place it.blocks.items it.inside (omega (arith, long, c.requires)) in
    omega (arith, there, it.blocks.ok.0)

pub get-requires : goal.get-requires
unfolding all_runs
get-requires c =
    let it = c.args.self.now in
    let long = joined_long it.len it.blocks.items it.filled it.inside in
    let block = c.index.result.now in
    let there = place_there it.len c.args.place it.blocks.items block it.filled it.inside (omega (arith, long, c.requires)) in
    subst (λ b. c.args.place % most_runs < length (runs_in b)) (sym c.index.ensures) there

pub returns : goal.returns
unfolding all_runs
returns c =
    let it = c.args.self.now in
    let long = joined_long it.len it.blocks.items it.filled it.inside in
    let block = c.index.result.now in
    c.get.ensures
    ∙ ap (λ b. get_or (runs_in b) (c.args.place % most_runs) c.get.result) c.index.ensures
    ∙ sym (run_read it.len c.args.place it.blocks.items block c.get.result it.filled it.inside (omega (arith, long, c.requires)))
