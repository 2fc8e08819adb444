use Rattle.std.specs.Prelude.{map, slice_get, Bool, List, Some, ℕ, ◌++◌, ◌≡◌, ◌≢◌}
use Rattle.cfb_siblings.specs.Reading.{ReadBy}
use Rattle.cfb_tree.specs.Directory.{no_entry, Entry}
use Rattle.cfb_tree.specs.EntryViews.{entry_in}
use Rattle.cfb_tree.specs.Names.{CaseTable}
use Rattle.cfb_tree.specs.Objects.{EntriesHoldTree}
use Rattle.cfb_tree.specs.Paths.{Path}
use Rattle.cfb_tree.specs.Tree.{Tree}
use Rattle.cfb_tree_edits.specs.WholeRemoval.{IsWayTo}
use Rattle.cfb_tree_edits.proofs.Descent.{Down}
use Rattle.cfb_tree_edits.proofs.leaf_search.go_down.Given as goal

abbrev pub invariant-down : goal.invariant-down
invariant-down l = (letters : CaseTable) (reads : ℕ → ℕ → List ℕ → Bool) (tree : Tree) (path : Path) (e : Entry)
    → EntriesHoldTree letters (ReadBy reads) (map entry_in l.entries) tree → IsWayTo letters (map entry_in l.entries) path l.initial.above.items l.fn.top
    → slice_get (map entry_in l.entries) l.fn.top ≡ Some e → e.child ≡ l.fn.child → l.fn.child ≢ no_entry
    → (way : IsWayTo letters (map entry_in l.entries) path l.above.items l.parent) × Down (map entry_in l.entries) (ReadBy reads) letters (path ++ way.more) l.parent l.at l._step
