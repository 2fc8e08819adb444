use Rattle.std.proofs.Common.{◌∙◌}
use Rattle.msi_schema.proofs.Tested.{tested}
use Rattle.msi_schema.proofs.filled.are_filled.Goals as goal

pub returns : goal.returns
returns c = c.are_rows_filled.ensures ∙ tested c.args.width c.args.rows.now
