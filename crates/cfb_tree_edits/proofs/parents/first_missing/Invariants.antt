use Rattle.std.specs.Prelude.{map, take, Bool, List, ℕ}
use Rattle.cfb_siblings.specs.Places.{path_of, IsStorageAt}
use Rattle.cfb_siblings.specs.Reading.{ReadBy}
use Rattle.cfb_tree.specs.EntryViews.{entry_in}
use Rattle.cfb_tree.specs.CaseTableViews.{case_table_of}
use Rattle.cfb_tree.specs.Objects.{EntriesHoldTree}
use Rattle.cfb_tree.specs.Tree.{Tree}
use Rattle.cfb_tree_edits.proofs.AllMade.{IsThereAsFar}
use Rattle.cfb_tree_edits.proofs.parents.first_missing.Given as goal

abbrev pub invariant-parts : goal.invariant-parts
invariant-parts l = (reads : ℕ → ℕ → List ℕ → Bool) (tree : Tree) → EntriesHoldTree (case_table_of l.letters) (ReadBy reads) (map entry_in l.entries) tree
    → IsThereAsFar (case_table_of l.letters) tree (path_of l.names) l.count × IsStorageAt (case_table_of l.letters) (map entry_in l.entries) (take l.count (path_of l.names)) l.parent
