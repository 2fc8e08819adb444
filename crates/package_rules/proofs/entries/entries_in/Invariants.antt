use Rattle.std.proofs.Common.{[]}
use Rattle.package_rules.specs.Firsts.{AreEntries}
use Rattle.package_rules.specs.Foreign.{entries_of_table}
use Rattle.package_rules.proofs.Given.{Given}
use Rattle.package_rules.proofs.entries.entries_in.Given as goal

-- the cells so far are in the set
abbrev pub invariant-loop-table : goal.invariant-loop-table
invariant-loop-table l = Given (λ i t. entries_of_table t) l.tables l.table-index [] (λ es. AreEntries l.asked es l.set)
