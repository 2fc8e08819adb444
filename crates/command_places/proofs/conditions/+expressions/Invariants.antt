use Rattle.std.proofs.Common.{◌+◌, ◌*◌}
use Rattle.serde_json.specs.Data.{depth, items_depth}
use Rattle.serde_json.specs.View.{items_view, view}
use Rattle.command_places.proofs.conditions.+expressions.Given as goal

abbrev pub decreases-expression_fault : goal.decreases-expression_fault
decreases-expression_fault l = 4 * depth (view l.json.now) + 2

abbrev pub decreases-operation_fault : goal.decreases-operation_fault
decreases-operation_fault l = 4 * depth (view l.json.now) + 1

abbrev pub decreases-operands_of : goal.decreases-operands_of
decreases-operands_of l = 4 * depth (view l.json.now)

abbrev pub decreases-operands_fault : goal.decreases-operands_fault
decreases-operands_fault l = 4 * items_depth (items_view l.list.now) + 3
