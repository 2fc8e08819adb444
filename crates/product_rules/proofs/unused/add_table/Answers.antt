use Rattle.std.proofs.Common.{◌∙◌, ap, ap₂, sym, take}
use Rattle.std.specs.Prelude.{◌||◌}
use Rattle.std.specs.BTreeSet.{contains_text}
use Rattle.std.specs.List.{list_any}
use Rattle.package_rules.proofs.StreamNames.{any_more, take_whole}
use Rattle.product_rules.specs.Unused.{backs, packs, uses_in}
use Rattle.product_rules.proofs.Noted.{or_later, or_mixed}
use Rattle.product_rules.proofs.unused.add_table.Goals as goal

pub loop-row-preserved : goal.loop-row-preserved
loop-row-preserved c = λ q.
    let rows = c.rows-rows.result.now in
    let before = list_any (uses_in q c.args.table.now) (take c.loop-row.row-index rows) in
    c.in_ok-add_packed.ensures q
    ∙ ap (λ b. b || packs q c.args.table.now c.row-item.result) (c.in_ok-add_backed.ensures q ∙ ap (λ b. b || backs q c.args.table.now c.row-item.result) (c.loop-row.invariant q))
    ∙ or_mixed (contains_text c.args.names.now q || before) (backs q c.args.table.now c.row-item.result) (packs q c.args.table.now c.row-item.result)
    ∙ sym (or_later (contains_text c.args.names.now q) before (uses_in q c.args.table.now c.row-item.result))
    ∙ ap (λ b. contains_text c.args.names.now q || b) (sym (any_more (uses_in q c.args.table.now) rows c.loop-row.row-index c.row-item.result c.loop-row-test.true c.row-item.is))

pub returns : goal.returns
returns c = λ q.
    c.loop-row.invariant q
    ∙ ap (λ rs. contains_text c.args.names.now q || list_any (uses_in q c.args.table.now) rs) (take_whole c.rows-rows.result.now c.loop-row.row-index c.loop-row-test.false ∙ c.rows-rows.ensures)
