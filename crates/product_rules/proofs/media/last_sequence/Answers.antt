use Rattle.std.proofs.Common.{◌∙◌, ap, ap₂, sym, take}
use Rattle.std.specs.Prelude.{◌&&◌, ◌||◌}
use Rattle.std.specs.List.{list_any}
use Rattle.package_rules.proofs.StreamNames.{any_more, take_whole}
use Rattle.product_rules.specs.Media.{is_media, is_reached, reached_by, reaches}
use Rattle.product_rules.proofs.Noted.{or_cond}
use Rattle.product_rules.proofs.media.last_sequence.Goals as goal

pub loop-table-preserved : goal.loop-table-preserved
loop-table-preserved c = λ z.
    c.greater-last.ensures z
    ∙ ap₂ (λ a b. a || b) (c.loop-table.invariant z) (c.last_of_table.ensures z)
    ∙ or_cond (is_reached (take c.loop-table.table-index c.args.tables.now) z) (is_media c.table-item.result.name && list_any (reaches z) c.table-item.result.rows)
    ∙ sym (any_more (λ t. is_media t.name && list_any (reaches z) t.rows) c.args.tables.now c.loop-table.table-index c.table-item.result c.loop-table-test.true c.table-item.is)

pub returns : goal.returns
returns c = λ z. c.loop-table.invariant z ∙ ap (λ ts. is_reached ts z) (take_whole c.args.tables.now c.loop-table.table-index c.loop-table-test.false)
