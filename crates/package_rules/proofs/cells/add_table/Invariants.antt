use Rattle.std.proofs.Common.{◌≡◌, ◌++◌, [], cond}
use Rattle.package_rules.specs.Places.{numbered, places_in_column}
use Rattle.package_rules.proofs.Left.{left}
use Rattle.package_rules.proofs.cells.add_table.Given as goal

-- what was found so far, with what is left, is all
abbrev pub invariant-loop-column_at : goal.invariant-loop-column_at
invariant-loop-column_at g l =
    let speaks = g.R.CellRule.speaks l.rule l.table in
    let fails = g.R.CellRule.fails l.rule l.table in
    l.found.items ++ left (λ k c. cond (speaks c) (places_in_column (fails c) l.table_at k l.table.rows) []) l.column_at l.columns
    ≡ l.fn.found.items ++ numbered (λ k c. cond (speaks c) (places_in_column (fails c) l.table_at k l.table.rows) []) l.columns
