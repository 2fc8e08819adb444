use Rattle.std.proofs.Common.{◌≡◌, ℕ, List, take}
use Rattle.std.specs.BTreeSet.{contains_text}
use Rattle.std.specs.List.{list_any}
use Rattle.std.specs.Prelude.{◌||◌}
use Rattle.product_rules.specs.Unused.{uses_in}
use Rattle.product_rules.proofs.unused.add_table.Given as goal

-- the names of the rows so far, beside those that were
abbrev pub invariant-loop-row : goal.invariant-loop-row
invariant-loop-row l = (q : List ℕ) → contains_text l.names q ≡ (contains_text l.fn.names q || list_any (uses_in q l.table) (take l.row-index l.rows))
