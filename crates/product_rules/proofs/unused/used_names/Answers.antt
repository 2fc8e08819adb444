use Rattle.std.proofs.Common.{◌∙◌, ap, ap₂, sym, take}
use Rattle.std.specs.Prelude.{◌||◌}
use Rattle.std.specs.List.{list_any}
use Rattle.package_rules.proofs.StreamNames.{any_more, take_whole}
use Rattle.product_rules.specs.Unused.{uses}
use Rattle.product_rules.proofs.Noted.{or_cond}
use Rattle.product_rules.proofs.unused.used_names.Goals as goal

pub loop-table-preserved : goal.loop-table-preserved
loop-table-preserved c = λ q.
    c.in_ok-add_table.ensures q
    ∙ ap (λ b. b || uses q c.table-item.result) (c.loop-table.invariant q)
    ∙ or_cond (list_any (uses q) (take c.loop-table.table-index c.args.tables.now)) (uses q c.table-item.result)
    ∙ sym (any_more (uses q) c.args.tables.now c.loop-table.table-index c.table-item.result c.loop-table-test.true c.table-item.is)

pub returns : goal.returns
returns c = λ q. c.loop-table.invariant q ∙ ap (list_any (uses q)) (take_whole c.args.tables.now c.loop-table.table-index c.loop-table-test.false)
