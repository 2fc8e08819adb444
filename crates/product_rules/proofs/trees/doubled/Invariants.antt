use Rattle.std.proofs.Common.{◌≡◌, map, take}
use Rattle.std.specs.Prelude.{option_and_then}
use Rattle.product_rules.specs.Trees.{above}
use Rattle.product_rules.proofs.trees.doubled.Given as goal

-- those of the rows so far
abbrev pub invariant-loop-at : goal.invariant-loop-at
invariant-loop-at l = l.twice.items ≡ map (option_and_then (above l.steps)) (take l.at-index l.steps)
