use Rattle.std.proofs.Common.{◌∙◌}
use Rattle.msi_columns.specs.Held.{columns_of}
use Rattle.msi_values.specs.Datum.{data_of}
use Rattle.command_reasons.proofs.Taken.{wrong_told}
use Rattle.command_reasons.proofs.rows.is_wrong.Goals as goal

pub returns : goal.returns
returns c = c.is_some.ensures ∙ wrong_told (columns_of c.args.columns.now) (data_of c.args.values.now) c.row_fault.result c.row_fault.ensures
