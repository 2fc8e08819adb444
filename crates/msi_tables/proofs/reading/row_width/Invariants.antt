use Rattle.std.proofs.Common.{◌≡◌, ◌+◌, ◌<◌, drop}
use Rattle.msi_tables.specs.Rows.{row_width}
use Rattle.msi_tables.proofs.reading.row_width.Given as goal

-- the bytes so far and those to come
abbrev pub invariant-loop-kind : goal.invariant-loop-kind
invariant-loop-kind l = record {
  bytes : l.width + row_width l.long (drop l.kind-index l.kinds) ≡ row_width l.long l.kinds;
  bound : l.width < 18446744073709551616;
}
