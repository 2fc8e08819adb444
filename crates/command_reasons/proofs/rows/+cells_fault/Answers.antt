use Rattle.command_reasons.proofs.Taken.{wrong_rest}
use Rattle.command_reasons.proofs.rows.+cells_fault.Goals as goal

pub returns-in-Some-cells_fault : goal.returns-in-Some-cells_fault
returns-in-Some-cells_fault t c =
    wrong_rest c.args.columns.now c.args.values.now c.column-item.result c.value-item.result c.in-Some-cells_fault.at c.in-Some-cells_fault.fault
    c.in-len1-up.len_at_least c.in-len1-up-values.len_at_least c.column-item.is c.value-item.is c.in-None.ensures c.in-Some-cells_fault.ensures
