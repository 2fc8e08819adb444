use Rattle.std.proofs.Common.{◌≡◌, ℕ, List, take}
use Rattle.std.specs.BTreeMap.{get_by_text}
use Rattle.product_rules.specs.Trees.{number_of}
use Rattle.product_rules.proofs.trees.names_in.Given as goal

-- the first rows of the names so far
abbrev pub invariant-loop-row_at : goal.invariant-loop-row_at
invariant-loop-row_at l = (q : List ℕ) → get_by_text l.names q ≡ number_of q 0 (take l.row_at l.rows)
