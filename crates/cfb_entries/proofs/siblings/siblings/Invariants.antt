use Rattle.std.proofs.Common.{◌-◌, length, map, List, ℕ, ◌≤◌}
use Rattle.cfb_entries.proofs.Sides.{Gone}
use Rattle.cfb_tree.specs.Directory.{Siblings}
use Rattle.cfb_tree.specs.EntryViews.{entry_in}
use Rattle.cfb_entries.proofs.siblings.siblings.Given as goal

abbrev pub invariant-walk : goal.invariant-walk
invariant-walk l = (all : List ℕ) → Siblings (map entry_in l.entries) l.fn.link all → length all ≤ length l.entries
    → Gone (map entry_in l.entries) l.ids.items l.above.items all

abbrev pub decreases-walk : goal.decreases-walk
decreases-walk l = length l.entries - length l.ids.items
