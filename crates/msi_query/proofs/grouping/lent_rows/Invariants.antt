use Rattle.std.proofs.Common.{◌≡◌, ◌++◌, drop}
use Rattle.msi_tables.specs.Held.{rows_held}
use Rattle.msi_query.specs.Grouped.{rows_lent}
use Rattle.msi_query.proofs.grouping.lent_rows.Given as goal

abbrev pub invariant-loop-row : goal.invariant-loop-row
invariant-loop-row l = rows_lent l.lent.items ++ rows_held (drop l.row-index l.rows) ≡ rows_held l.rows
