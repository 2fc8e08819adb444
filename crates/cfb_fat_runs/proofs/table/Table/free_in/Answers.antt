use Rattle.std.proofs.Common.{arith}
use Rattle.cfb_fat_runs.specs.RunLists.{all_runs}
use Rattle.cfb_fat_runs.proofs.Walked.{counted_free, counted_none, run_some, unlike}
use Rattle.cfb_fat_runs.proofs.table.Table.free_in.Goals as goal

pub overflow_sub-result : goal.overflow_sub-result
overflow_sub-result c =
    let it = c.args.self.now in
    let some = run_some it.len c.args.position (all_runs it.runs) c.get-run.result it.tiled c.requires c.get-run.ensures in
    omega (arith, some, c.end.ensures)

pub returns-then-is_free : goal.returns-then-is_free
returns-then-is_free c = counted_free c.args.self.now c.args.position c.end.result c.get-run.result c.requires c.get-run.ensures (c.is_free.ensures.0 c.if-is_free.true) c.end.ensures

pub returns : goal.returns
returns c = counted_none c.args.self.now c.args.position c.get-run.result c.requires c.get-run.ensures (λ same. unlike _ (c.is_free.ensures.1 same) c.if-is_free.false)
