use Rattle.std.proofs.Common.{◌+◌, ◌-◌, ◌∷◌, ◌≡◌, length, map}
use Rattle.cfb_spec.specs.TreeRules.{all_shown}
use Rattle.cfb_tree.specs.EntryViews.{entry_in}
use Rattle.cfb_tree.specs.Paths.{Path}
use Rattle.cfb_tree.specs.Tree.{Content}
use Rattle.cfb_entries.specs.Holding.{IsHeldAt}
use Rattle.cfb_entries.specs.Listed.{listed, listed_in, prefix_of_listed, prefix_text}
use Rattle.cfb_entries.proofs.Preorder.{Walked}
use Rattle.cfb_entries.proofs.walking.walk.Given as goal

abbrev pub invariant-walk : goal.invariant-walk
invariant-walk l = (front : Path) (content : Content) → IsHeldAt (map entry_in l.entries) l.link content → prefix_of_listed (listed_in l.fn.top) ≡ prefix_text front
    → Walked (map entry_in l.entries) (map listed_in l.list.items) l.pending.items (listed_in l.fn.top ∷ map listed (all_shown front content))

abbrev pub decreases-walk : goal.decreases-walk
decreases-walk l = length l.entries + 1 - length l.list.items
