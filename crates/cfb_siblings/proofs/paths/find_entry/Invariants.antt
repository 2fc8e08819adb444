use Rattle.std.specs.Prelude.{map, drop, ℕ, Bool, List}
use Rattle.cfb_tree.specs.EntryViews.{entry_in}
use Rattle.cfb_tree.specs.CaseTableViews.{case_table_of}
use Rattle.cfb_tree.specs.Objects.{EntriesHoldTree}
use Rattle.cfb_tree.specs.Tree.{Tree}
use Rattle.cfb_siblings.specs.Places.{path_of}
use Rattle.cfb_siblings.specs.Reading.{ReadBy}
use Rattle.cfb_siblings.proofs.Following.{Followed}
use Rattle.cfb_siblings.proofs.paths.find_entry.Given as goal

abbrev pub invariant-path : goal.invariant-path
invariant-path l = (reads : ℕ → ℕ → List ℕ → Bool) (tree : Tree)
    (h : EntriesHoldTree (case_table_of l.letters) (ReadBy reads) (map entry_in l.entries) tree)
    → Followed (case_table_of l.letters) (ReadBy reads) (map entry_in l.entries) tree h (path_of l.names) (path_of (drop l.name-index l.names)) l.id
