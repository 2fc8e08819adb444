use Rattle.std.proofs.Common.{◌≡◌, map, drop, chars}
use Rattle.cfb_spec.specs.TreeRules.{children_shown}
use Rattle.cfb_tree.specs.EntryViews.{entry_in}
use Rattle.cfb_tree.specs.Paths.{Path}
use Rattle.cfb_tree.specs.Tree.{Content}
use Rattle.cfb_entries.specs.Holding.{IsHeldAt}
use Rattle.cfb_entries.specs.Listed.{listed, listed_in, prefix_text}
use Rattle.cfb_entries.proofs.Preorder.{Told}
use Rattle.cfb_entries.proofs.walking.children.Given as goal

abbrev pub invariant-loop-id : goal.invariant-loop-id
invariant-loop-id l = (front : Path) (content : Content) → IsHeldAt (map entry_in l.entries) l.link content → chars l.prefix ≡ prefix_text front
    → Told (map entry_in l.entries) front (map listed_in l.list.items) (drop l.id-index l.id-items) (map listed (children_shown front content))
