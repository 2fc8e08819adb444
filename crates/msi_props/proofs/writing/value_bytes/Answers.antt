use Rattle.std.proofs.Common.{arith}
use Rattle.std.proofs.lemmas.Grind.{common_steps}
use Rattle.msi_props.proofs.SetWriting.{eight_bytes}
use Rattle.msi_props.proofs.writing.value_bytes.Goals as goal

pub returns-in_ok-write_to-in-FileTime-clause-ok : goal.returns-in_ok-write_to-in-FileTime-clause-ok
returns-in_ok-write_to-in-FileTime-clause-ok c =
    let written = rw eight_bytes at c.in_ok-write_to-in-FileTime.ensures.ok in
    grind (arith, common_steps, written)
