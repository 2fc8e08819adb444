use Rattle.std.proofs.Common.{◌≡◌, ◌++◌}
use Rattle.std.specs.Prelude.{is_none}
use Rattle.package_rules.specs.Firsts.{said_at}
use Rattle.package_rules.specs.Places.{numbered}
use Rattle.package_rules.proofs.Left.{left}
use Rattle.column_rules.specs.Described.{column_if}
use Rattle.column_rules.proofs.described.add_columns.Given as goal

-- what was found so far, with what is left, is all
abbrev pub invariant-loop-column_at : goal.invariant-loop-column_at
invariant-loop-column_at l =
    l.found.items ++ left (λ k c. column_if (is_none (said_at l.said l.table.name c.name)) l.table_at k) l.column_at l.columns
    ≡ l.fn.found.items ++ numbered (λ k c. column_if (is_none (said_at l.said l.table.name c.name)) l.table_at k) l.columns
