use Rattle.std.proofs.Common.{◌≡◌, ◌++◌, []}
use Rattle.package_rules.specs.Places.{numbered}
use Rattle.package_rules.proofs.Left.{left}
use Rattle.product_rules.specs.Components.{again_in}
use Rattle.product_rules.proofs.again.repeated_component_codes.Given as goal

-- what was found so far, with what is left, is all
abbrev pub invariant-loop-table_at : goal.invariant-loop-table_at
invariant-loop-table_at l = l.found.items ++ left again_in l.table_at l.tables ≡ [] ++ numbered again_in l.tables
