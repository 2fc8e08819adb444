use Rattle.msi_spec.proofs.NewColumns.{new_columns}
use Rattle.msi_spec.proofs.laws.new_columns_are_read.Goals as goal

pub returns : goal.returns
returns c = new_columns
