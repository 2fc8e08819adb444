use Rattle.std.proofs.Common.{◌≡◌, map, take}
use Rattle.std.specs.BTreeMap.{get_by_text}
use Rattle.product_rules.specs.Trees.{parent_by}
use Rattle.product_rules.proofs.trees.parents_in.Given as goal

-- the parents of the rows so far
abbrev pub invariant-loop-row : goal.invariant-loop-row
invariant-loop-row l = l.parents.items ≡ map (parent_by (get_by_text l.names) l.own l.column_at) (take l.row-index l.rows)
