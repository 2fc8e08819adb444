use Rattle.std.proofs.Common.{◌∙◌, arith}
use Rattle.cfb_fat_runs.proofs.RunStarts.{starts_all}
use Rattle.cfb_fat_runs.proofs.table.Table.runs.Goals as goal

pub returns : goal.returns
returns c =
    let it = c.args.self.now in
    c.loop-position.invariant.counted ∙ starts_all it c.loop-position.position (omega (arith, c.loop-position-test.false, c.loop-position.auto.position-end, c.len-position-end.ensures))
