use Rattle.std.proofs.Common.{◌+◌, ◌++◌, ◌∷◌, [], List, map, subst}
use Rattle.msi_listing.specs.Content.{CellContent}
use Rattle.msi_listing.specs.HeldCell.{cell_of}
use Rattle.package_rules.specs.Firsts.{AreEntries}
use Rattle.package_rules.specs.Foreign.{entries_of_row}
use Rattle.package_rules.proofs.Given.{given_end, given_next, mapped_at, mapped_less, mapped_past}
use Rattle.package_rules.proofs.entries.add_row.Goals as goal

pub loop-at-preserved : goal.loop-at-preserved
loop-at-preserved c = λ before are.
    let cells = c.cells-cells.result.now in
    given_next (λ k d. record { table = c.args.table.now; column = k + 1; cell = d } ∷ []) (map cell_of cells) c.loop-at.at (cell_of c.index-cells-at.result) before
    (λ es. AreEntries c.args.asked.now es c.loop-at.set) (λ es. AreEntries c.args.asked.now es c.add_cell.new.set)
    (mapped_less cell_of cells c.loop-at.at c.loop-at-test.true) (mapped_at cell_of cells c.loop-at.at c.index-cells-at.result c.loop-at-test.true c.index-cells-at.is)
    (λ all told. c.in_ok-add_cell.ensures all told) (c.loop-at.invariant before are)

pub returns : goal.returns
returns c = λ es are.
    let cells = c.cells-cells.result.now in
    subst (λ (row : List CellContent). AreEntries c.args.asked.now (es ++ entries_of_row c.args.table.now row) c.loop-at.set) c.cells-cells.ensures
    (given_end (λ k d. record { table = c.args.table.now; column = k + 1; cell = d } ∷ []) (map cell_of cells) c.loop-at.at es (λ all. AreEntries c.args.asked.now all c.loop-at.set)
    (mapped_past cell_of cells c.loop-at.at c.loop-at-test.false) (c.loop-at.invariant es are))
