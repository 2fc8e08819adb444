use Rattle.std.proofs.Common.{◌<◌, arith, codes}
use Rattle.serde_json.specs.Data.{depth, items_depth}
use Rattle.serde_json.specs.View.{view, items_view}
use Rattle.command_places.proofs.Depths.{get_depth, items_deep, item_deep}
use Rattle.command_places.proofs.conditions.+expressions.Goals as goal

pub operands_of-operands_fault-requires : goal.operands_of-operands_fault-requires
operands_of-operands_fault-requires t c =
    let deep : depth (view c.in_ok-member.field-0.now) < depth (view c.args.json.now) = get_depth (codes "args") (view c.args.json.now) (view c.in_ok-member.field-0.now) c.in_ok-member.ensures in
    let list : items_depth (items_view c.in_ok-list.list.now) < depth (view c.in_ok-member.field-0.now) = items_deep (view c.in_ok-member.field-0.now) (items_view c.in_ok-list.list.now) c.in_ok-list.ensures in
    (omega (arith, deep, list), tt)

pub operands_fault-expression_fault-requires : goal.operands_fault-expression_fault-requires
operands_fault-expression_fault-requires t c =
    let deep = item_deep c.args.list.now c.loop-item.item-index c.item-item.result (omega arith) c.item-item.is in
    (omega (arith, deep), tt)
