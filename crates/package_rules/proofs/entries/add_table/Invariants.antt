use Rattle.std.proofs.Common.{List}
use Rattle.package_rules.specs.Firsts.{AreEntries}
use Rattle.package_rules.specs.Foreign.{Entry, entries_of_row}
use Rattle.package_rules.proofs.Given.{Given}
use Rattle.package_rules.proofs.entries.add_table.Given as goal

-- the cells so far are in the set, behind those that were
abbrev pub invariant-loop-row : goal.invariant-loop-row
invariant-loop-row l = (before : List Entry) → AreEntries l.asked before l.fn.set → Given (λ j row. entries_of_row l.name row) l.rows l.row-index before (λ es. AreEntries l.asked es l.set)
