use Rattle.std.proofs.Common.{◌++◌, ◌∷◌, [], List, subst}
use Rattle.msi_listing.specs.Content.{CellContent}
use Rattle.package_rules.specs.Asked.{AreAsked}
use Rattle.package_rules.proofs.AskedPut.{put_asked}
use Rattle.package_rules.proofs.Given.{each_alone, given_end, given_next}
use Rattle.package_rules.proofs.asked.add_rows.Goals as goal

pub loop-row-preserved : goal.loop-row-preserved
loop-row-preserved c = λ before told.
    given_next (λ i r. r ∷ []) c.args.rows.now c.loop-row.row-index c.row-item.result before
    (λ rows. AreAsked rows c.loop-row.asked) (λ rows. AreAsked rows c.add_row.new.asked) c.loop-row-test.true c.row-item.is
    (λ all so. put_asked all c.loop-row.asked c.add_row.new.asked c.row-item.result so c.in_ok-add_row.ensures.grows c.in_ok-add_row.ensures.has_them) (c.loop-row.invariant before told)

pub returns : goal.returns
returns c = λ before told.
    subst (λ (rs : List (List CellContent)). AreAsked (before ++ rs) c.loop-row.asked) (each_alone c.args.rows.now 0)
    (given_end (λ i r. r ∷ []) c.args.rows.now c.loop-row.row-index before (λ rows. AreAsked rows c.loop-row.asked) c.loop-row-test.false (c.loop-row.invariant before told))
