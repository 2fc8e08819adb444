use Rattle.std.proofs.Common.{◌≡◌, map, drop, ◌+◌, ◌*◌}
use Rattle.serde_json.specs.Data.{depth, items_depth}
use Rattle.serde_json.specs.View.{items_view, view}
use Rattle.msi_expr.specs.Formula.{formula_of}
use Rattle.command_file.specs.Expressions.{formula_in}
use Rattle.json_parts.specs.Values.{all_in}
use Rattle.json_parts.proofs.ReadLists.{onto}
use Rattle.command_file.proofs.expressions.+expressions.Given as goal

abbrev pub decreases-expression_of : goal.decreases-expression_of
decreases-expression_of l = 4 * depth (view l.json.now) + 2

abbrev pub decreases-operation_of : goal.decreases-operation_of
decreases-operation_of l = 4 * depth (view l.json.now) + 1

abbrev pub decreases-operands_of : goal.decreases-operands_of
decreases-operands_of l = 4 * depth (view l.json.now)

abbrev pub decreases-expressions_of : goal.decreases-expressions_of
decreases-expressions_of l = 4 * items_depth (items_view l.list.now) + 3

abbrev pub invariant-expressions_of-loop-item : goal.invariant-expressions_of-loop-item
invariant-expressions_of-loop-item l = onto (map formula_of l.args.items) (all_in formula_in (items_view (drop l.item-index l.list))) ≡ all_in formula_in (items_view l.list)
