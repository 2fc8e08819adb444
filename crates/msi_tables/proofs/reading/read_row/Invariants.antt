use Rattle.std.proofs.Common.{◌≡◌, ◌+◌, ◌++◌, drop}
use Rattle.msi_tables.specs.Rows.{row_at, row_width}
use Rattle.msi_tables.proofs.reading.read_row.Given as goal

-- the cells so far and those to come are the row
abbrev pub invariant-loop-kind : goal.invariant-loop-kind
invariant-loop-kind l = record {
  cells : l.row.items ++ row_at l.long l.n l.bytes l.before (drop l.kind-index l.kinds) l.r ≡ row_at l.long l.n l.bytes 0 l.kinds l.r;
  widths : l.before + row_width l.long (drop l.kind-index l.kinds) ≡ row_width l.long l.kinds;
}
