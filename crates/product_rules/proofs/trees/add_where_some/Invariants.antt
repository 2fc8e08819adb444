use Rattle.std.proofs.Common.{◌≡◌, ◌++◌}
use Rattle.std.specs.Prelude.{is_some}
use Rattle.package_rules.specs.Places.{numbered, place_if}
use Rattle.package_rules.proofs.Left.{left}
use Rattle.product_rules.specs.Trees.{above}
use Rattle.product_rules.proofs.trees.add_where_some.Given as goal

-- what was found so far, with what is left, is all
abbrev pub invariant-loop-row_at : goal.invariant-loop-row_at
invariant-loop-row_at l =
    l.found.items ++ left (λ j row. place_if (is_some (above l.steps j)) l.table_at l.column_at j) l.row_at l.rows
    ≡ l.fn.found.items ++ numbered (λ j row. place_if (is_some (above l.steps j)) l.table_at l.column_at j) l.rows
