use Rattle.msi_tables.specs.Held.{heading_of}
use Rattle.msi_tables.proofs.table.Table.write_rows.Goals as goal

pub returns : goal.returns
unfolding heading_of
returns c = rw c.deref.ensures.value at c.write_rows.ensures
