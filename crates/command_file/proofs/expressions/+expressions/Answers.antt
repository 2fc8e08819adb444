use Rattle.std.proofs.Common.{◌≡◌, ◌<◌, ◌∙◌, ap, sym, arith, codes}
use Rattle.serde_json.proofs.Views.{view-Object}
use Rattle.serde_json.specs.Data.{depth, items_depth}
use Rattle.serde_json.specs.View.{view, items_view, members_view}
use Rattle.command_file.specs.Expressions.{formula_in}
use Rattle.command_file.specs.Nested.{operation_in}
use Rattle.command_file.proofs.Named.{get_depth}
use Rattle.command_file.proofs.Nested.{items_deep, operation_is, item_deep}
use Rattle.command_file.proofs.expressions.+expressions.Goals as goal

pub operands_of-expressions_of-requires : goal.operands_of-expressions_of-requires
operands_of-expressions_of-requires t c =
    let deep : depth (view c.in_ok-member.field-0.now) < depth (view c.args.json.now) = get_depth (codes "args") (view c.args.json.now) (view c.in_ok-member.field-0.now) c.in_ok-member.ensures in
    let list : items_depth (items_view c.in_ok-list.list.now) < depth (view c.in_ok-member.field-0.now) = items_deep (view c.in_ok-member.field-0.now) (items_view c.in_ok-list.list.now) c.in_ok-list.ensures in
    (omega (arith, deep, list), tt)

pub expressions_of-expression_of-requires : goal.expressions_of-expression_of-requires
expressions_of-expression_of-requires t c =
    let deep = item_deep c.args.list.now c.loop-item.item-index c.item-item.result (omega arith) c.item-item.is in
    (omega (arith, deep), tt)

pub expression_of-returns-then-are_among-2 : goal.expression_of-returns-then-are_among-2
expression_of-returns-then-are_among-2 t c =
    let same : formula_in (view c.args.json.now) ≡ operation_in (view c.args.json.now) =
    rw (ap view c.in-Object.is ∙ view-Object c.in-Object.members)
    (operation_is (members_view c.in-Object.members.entries) (sym c.are_among.ensures ∙ c.if-are_among.false) (sym c.are_among-in-Object.ensures ∙ c.if-are_among-2.true)) in
    rw same c.operation_of.ensures
