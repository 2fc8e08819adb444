use Rattle.std.proofs.Common.{◌++◌, ◌∷◌, [], List, subst}
use Rattle.msi_listing.specs.Content.{CellContent}
use Rattle.package_rules.specs.Firsts.{AreFirsts}
use Rattle.package_rules.proofs.Given.{each_alone, given_end, given_next}
use Rattle.package_rules.proofs.said.add_rows.Goals as goal

pub loop-row-preserved : goal.loop-row-preserved
loop-row-preserved c = λ before told.
    given_next (λ i r. r ∷ []) c.args.rows.now c.loop-row.row-index c.row-item.result before
    (λ rows. AreFirsts rows c.loop-row.said) (λ rows. AreFirsts rows c.add_row.new.said) c.loop-row-test.true c.row-item.is
    (λ all so. c.in_ok-add_row.ensures all so) (c.loop-row.invariant before told)

pub returns : goal.returns
returns c = λ before told.
    subst (λ (rs : List (List CellContent)). AreFirsts (before ++ rs) c.loop-row.said) (each_alone c.args.rows.now 0)
    (given_end (λ i r. r ∷ []) c.args.rows.now c.loop-row.row-index before (λ rows. AreFirsts rows c.loop-row.said) c.loop-row-test.false (c.loop-row.invariant before told))
