use Rattle.std.proofs.Common.{[]}
use Rattle.package_rules.specs.Firsts.{AreEntries}
use Rattle.package_rules.specs.Foreign.{entries_of_table}
use Rattle.package_rules.proofs.Given.{given_next}
use Rattle.package_rules.proofs.entries.entries_in.Goals as goal

pub loop-table-preserved : goal.loop-table-preserved
loop-table-preserved c =
    given_next (λ i t. entries_of_table t) c.tables-tables.result.now c.loop-table.table-index c.table-item.result []
    (λ es. AreEntries c.args.asked.now es c.loop-table.set) (λ es. AreEntries c.args.asked.now es c.add_table.new.set) c.loop-table-test.true c.table-item.is
    (λ all told. c.in_ok-add_table.ensures all told) c.loop-table.invariant
