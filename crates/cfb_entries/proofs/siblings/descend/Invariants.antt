use Rattle.std.proofs.Common.{◌-◌, length, map, List, ℕ, ◌++◌}
use Rattle.cfb_entries.specs.Pending.{Above}
use Rattle.cfb_entries.proofs.Sides.{Down}
use Rattle.cfb_tree.specs.Directory.{Siblings}
use Rattle.cfb_tree.specs.EntryViews.{entry_in}
use Rattle.cfb_entries.proofs.siblings.descend.Given as goal

abbrev pub invariant-down : goal.invariant-down
invariant-down l = (here rest : List ℕ) → Siblings (map entry_in l.entries) l.fn.link here → Above (map entry_in l.entries) l.fn.above.items rest
    → Down (map entry_in l.entries) l.above.items l.at (here ++ rest)

abbrev pub decreases-down : goal.decreases-down
decreases-down l = length l.entries - length l.above.items
