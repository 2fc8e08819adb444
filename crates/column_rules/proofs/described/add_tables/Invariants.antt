use Rattle.std.proofs.Common.{◌≡◌, ◌++◌}
use Rattle.package_rules.specs.Firsts.{said_at}
use Rattle.package_rules.specs.Places.{numbered}
use Rattle.package_rules.proofs.Left.{left}
use Rattle.column_rules.specs.Described.{undescribed_at}
use Rattle.column_rules.proofs.described.add_tables.Given as goal

-- what was found so far, with what is left, is all
abbrev pub invariant-loop-table_at : goal.invariant-loop-table_at
invariant-loop-table_at l =
    l.found.items ++ left (undescribed_at (said_at l.said)) l.table_at l.tables ≡ l.fn.found.items ++ numbered (undescribed_at (said_at l.said)) l.tables
