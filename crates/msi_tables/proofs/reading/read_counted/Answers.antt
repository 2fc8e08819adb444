use Rattle.std.proofs.Common.{suc, arith}
use Rattle.std.proofs.lemmas.Grind.{common_steps}
use Rattle.msi_tables.proofs.reading.read_counted.Goals as goal

pub loop-r-preserved : goal.loop-r-preserved
loop-r-preserved c = λ left total.
    let before = c.loop-r.invariant (suc left) (omega (arith, total)) in
    grind (arith, common_steps, before)

pub returns : goal.returns
returns c =
    let all = c.loop-r.invariant 0 (omega arith) in
    grind (arith, common_steps, all)
