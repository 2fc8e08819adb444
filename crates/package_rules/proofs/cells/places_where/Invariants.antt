use Rattle.std.proofs.Common.{◌≡◌, ◌++◌, []}
use Rattle.package_rules.specs.Places.{numbered, places_in_table}
use Rattle.package_rules.proofs.Left.{left}
use Rattle.package_rules.proofs.cells.places_where.Given as goal

-- what was found so far, with what is left, is all
abbrev pub invariant-loop-table_at : goal.invariant-loop-table_at
invariant-loop-table_at g l =
    l.found.items ++ left (λ i t. places_in_table (g.R.CellRule.speaks l.rule) (g.R.CellRule.fails l.rule) i t) l.table_at l.tables
    ≡ [] ++ numbered (λ i t. places_in_table (g.R.CellRule.speaks l.rule) (g.R.CellRule.fails l.rule) i t) l.tables
