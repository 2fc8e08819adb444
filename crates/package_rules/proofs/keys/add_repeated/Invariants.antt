use Rattle.std.proofs.Common.{◌≡◌, ◌++◌}
use Rattle.package_rules.specs.Keys.{repeated_in}
use Rattle.package_rules.specs.Places.{numbered}
use Rattle.package_rules.proofs.Left.{left}
use Rattle.package_rules.proofs.keys.add_repeated.Given as goal

-- what was found so far, with what is left, is all
abbrev pub invariant-loop-table_at : goal.invariant-loop-table_at
invariant-loop-table_at l = l.found.items ++ left repeated_in l.table_at l.tables ≡ l.fn.found.items ++ numbered repeated_in l.tables
