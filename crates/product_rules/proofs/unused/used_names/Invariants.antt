use Rattle.std.proofs.Common.{◌≡◌, ℕ, List, take}
use Rattle.std.specs.BTreeSet.{contains_text}
use Rattle.std.specs.List.{list_any}
use Rattle.product_rules.specs.Unused.{uses}
use Rattle.product_rules.proofs.unused.used_names.Given as goal

-- the names of the tables so far
abbrev pub invariant-loop-table : goal.invariant-loop-table
invariant-loop-table l = (q : List ℕ) → contains_text l.names q ≡ list_any (uses q) (take l.table-index l.tables)
