use Rattle.msi_tables.proofs.ReadBack.{written_back}
use Rattle.msi_tables.proofs.laws.written_rows_are_read.Goals as goal

pub returns : goal.returns
returns c = written_back
