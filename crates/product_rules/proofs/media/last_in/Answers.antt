use Rattle.std.proofs.Common.{◌∙◌, ap, ap₂, sym, take}
use Rattle.std.specs.Prelude.{◌||◌}
use Rattle.std.specs.List.{list_any}
use Rattle.package_rules.proofs.StreamNames.{any_more, take_whole}
use Rattle.product_rules.specs.Media.{reached_by, reaches}
use Rattle.product_rules.proofs.Noted.{or_cond}
use Rattle.product_rules.proofs.media.last_in.Goals as goal

pub loop-row-preserved : goal.loop-row-preserved
loop-row-preserved c = λ z.
    c.greater-last.ensures z
    ∙ ap₂ (λ a b. a || reached_by b z) (c.loop-row.invariant z) c.last_of.ensures
    ∙ or_cond (list_any (reaches z) (take c.loop-row.row-index c.args.rows.now)) (reaches z c.row-item.result)
    ∙ sym (any_more (reaches z) c.args.rows.now c.loop-row.row-index c.row-item.result c.loop-row-test.true c.row-item.is)

pub returns : goal.returns
returns c = λ z. c.loop-row.invariant z ∙ ap (list_any (reaches z)) (take_whole c.args.rows.now c.loop-row.row-index c.loop-row-test.false)
