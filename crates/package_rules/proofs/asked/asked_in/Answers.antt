use Rattle.std.proofs.Common.{◌∙◌, [], List, ap, cond, subst}
use Rattle.std.specs.Prelude.{bytes_eq, codes}
use Rattle.std.specs.List.{flat_map}
use Rattle.msi_listing.specs.Content.{CellContent, TableContent}
use Rattle.package_rules.specs.Asked.{AreAsked}
use Rattle.package_rules.proofs.Given.{given_end, given_next, unnumbered}
use Rattle.package_rules.proofs.asked.asked_in.Goals as goal

pub loop-table-preserved : goal.loop-table-preserved
loop-table-preserved c =
    given_next (λ i t. cond (bytes_eq t.name (codes "_Validation")) t.rows []) c.tables-tables.result.now c.loop-table.table-index c.table-item.result []
    (λ rows. AreAsked rows c.loop-table.asked) (λ rows. AreAsked rows c.add_table.new.asked) c.loop-table-test.true c.table-item.is
    (λ all so. c.in_ok-add_table.ensures all so) c.loop-table.invariant

pub returns : goal.returns
returns c =
    let rows_of : TableContent → List (List CellContent) = λ t. cond (bytes_eq t.name (codes "_Validation")) t.rows [] in
    subst (λ (rs : List (List CellContent)). AreAsked rs c.loop-table.asked)
    (unnumbered rows_of c.tables-tables.result.now 0 ∙ ap (flat_map rows_of) c.tables-tables.ensures)
    (given_end (λ i t. cond (bytes_eq t.name (codes "_Validation")) t.rows []) c.tables-tables.result.now c.loop-table.table-index [] (λ rows. AreAsked rows c.loop-table.asked)
    c.loop-table-test.false c.loop-table.invariant)
