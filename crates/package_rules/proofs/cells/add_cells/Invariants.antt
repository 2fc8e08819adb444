use Rattle.std.proofs.Common.{◌≡◌, ◌++◌}
use Rattle.package_rules.specs.Places.{fails_at, numbered, place_if}
use Rattle.package_rules.proofs.Left.{left}
use Rattle.package_rules.proofs.cells.add_cells.Given as goal

-- what was found so far, with what is left, is all
abbrev pub invariant-loop-row_at : goal.invariant-loop-row_at
invariant-loop-row_at g l =
    let fails = g.R.CellRule.fails l.rule l.spot.table.now l.spot.column.now in
    l.found.items ++ left (λ j row. place_if (fails_at fails l.spot.column_at row) l.spot.table_at l.spot.column_at j) l.row_at l.rows
    ≡ l.fn.found.items ++ numbered (λ j row. place_if (fails_at fails l.spot.column_at row) l.spot.table_at l.spot.column_at j) l.rows
