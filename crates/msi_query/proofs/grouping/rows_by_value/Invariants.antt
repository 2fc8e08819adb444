use Rattle.std.proofs.Common.{drop}
use Rattle.msi_query.proofs.GroupedRows.{AddsUp}
use Rattle.msi_query.proofs.grouping.rows_by_value.Given as goal

abbrev pub invariant-loop-row : goal.invariant-loop-row
invariant-loop-row l = AddsUp l.pool.pool l.place (drop l.row-index l.rows) l.rows l.groups
