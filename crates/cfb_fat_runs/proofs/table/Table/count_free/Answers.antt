use Rattle.std.proofs.Common.{◌+◌, drop, arith, ◌∙◌}
use Rattle.cfb_fat_runs.specs.RunLists.{all_runs}
use Rattle.cfb_fat_runs.specs.Runs.{start_of}
use Rattle.cfb_fat_runs.proofs.Walked.{counted_all, counted_few}
use Rattle.cfb_fat_runs.proofs.table.Table.count_free.Goals as goal

pub overflow_add-count : goal.overflow_add-count
overflow_add-count c =
    let it = c.args.self.now in
    let few = counted_few it (start_of it.len (drop (c.loop-position.position + 1) (all_runs it.runs))) in
    omega (arith, few, it.few, c.loop-position.invariant.counted, c.free_in-count.ensures)

pub returns : goal.returns
returns c =
    let it = c.args.self.now in
    c.loop-position.invariant.counted ∙ counted_all it c.loop-position.position (omega (arith, c.loop-position-test.false, c.loop-position.auto.position-end, c.len-position-end.ensures))
