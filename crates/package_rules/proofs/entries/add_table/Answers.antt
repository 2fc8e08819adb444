use Rattle.std.proofs.Common.{ℕ, ◌++◌, List, subst}
use Rattle.msi_listing.specs.Content.{CellContent}
use Rattle.package_rules.specs.Firsts.{AreEntries}
use Rattle.package_rules.specs.Foreign.{entries_of_row}
use Rattle.package_rules.specs.Places.{numbered}
use Rattle.package_rules.proofs.Given.{given_end, given_next}
use Rattle.package_rules.proofs.entries.add_table.Goals as goal

pub loop-row-preserved : goal.loop-row-preserved
loop-row-preserved c = λ before are.
    given_next (λ j row. entries_of_row c.name-name.result.now row) c.rows-rows.result.now c.loop-row.row-index c.row-item.result before
    (λ es. AreEntries c.args.asked.now es c.loop-row.set) (λ es. AreEntries c.args.asked.now es c.add_row.new.set) c.loop-row-test.true c.row-item.is
    (λ all told. c.in_ok-add_row.ensures all told) (c.loop-row.invariant before are)

pub returns : goal.returns
returns c = λ es are.
    subst (λ (n : List ℕ). AreEntries c.args.asked.now (es ++ numbered (λ j row. entries_of_row n row) c.args.table.now.rows) c.loop-row.set) c.name-name.ensures
    (subst (λ (rs : List (List CellContent)). AreEntries c.args.asked.now (es ++ numbered (λ j row. entries_of_row c.name-name.result.now row) rs) c.loop-row.set) c.rows-rows.ensures
    (given_end (λ j row. entries_of_row c.name-name.result.now row) c.rows-rows.result.now c.loop-row.row-index es (λ all. AreEntries c.args.asked.now all c.loop-row.set) c.loop-row-test.false
    (c.loop-row.invariant es are)))
