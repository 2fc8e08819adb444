use Rattle.std.proofs.Common.{arith}
use Rattle.msi_columns.specs.Held.{columns_of}
use Rattle.msi_tables.specs.Held.{heading_of}
use Rattle.msi_tables.proofs.Writable.{shape_read}
use Rattle.msi_tables.proofs.table.Table.read_rows.Goals as goal

pub returns-clause-shape : goal.returns-clause-shape
unfolding heading_of
returns-clause-shape c = shape_read c.args.self.now.long_string_refs (columns_of c.args.self.now.columns.items) c.args.bytes.now (λ i. let fits = c.type_inv.bytes i in omega (arith, fits)) c.read_rows.result (rw c.deref.ensures.value at c.read_rows.ensures)
