use Rattle.std.proofs.Common.{◌∙◌, [], ◌∷◌, ap, sym}
use Rattle.std.specs.Option.{option_or}
use Rattle.package_rules.proofs.StreamNames.{take_whole}
use Rattle.product_rules.specs.Trees.{number_of}
use Rattle.product_rules.proofs.Climbed.{number_more}
use Rattle.product_rules.proofs.trees.names_in.Goals as goal

pub loop-row_at-preserved : goal.loop-row_at-preserved
loop-row_at-preserved c = λ q.
    c.in_ok-add_name.ensures q
    ∙ ap (λ o. option_or o (number_of q c.loop-row_at.row_at (c.index-rows-row_at.result ∷ []))) (c.loop-row_at.invariant q)
    ∙ sym (number_more q c.args.rows.now c.loop-row_at.row_at c.index-rows-row_at.result c.loop-row_at-test.true c.index-rows-row_at.is)

pub returns : goal.returns
returns c = λ q. c.loop-row_at.invariant q ∙ ap (number_of q 0) (take_whole c.args.rows.now c.loop-row_at.row_at c.loop-row_at-test.false)
