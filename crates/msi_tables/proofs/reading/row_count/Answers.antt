use Rattle.msi_tables.specs.Rows.{row_width}
use Rattle.std.proofs.Common.{arith}
use Rattle.msi_tables.proofs.RowCount.{no_row_fits}
use Rattle.msi_tables.proofs.reading.row_count.Goals as goal

pub returns-in-None-clause-count : goal.returns-in-None-clause-count
returns-in-None-clause-count c =
    λ bytes len. rw len (no_row_fits (row_width c.args.long c.args.kinds.now) c.args.len (rw c.in-None.is at c.row_width.ensures) (omega arith))
