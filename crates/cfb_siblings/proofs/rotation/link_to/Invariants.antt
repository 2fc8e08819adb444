use Rattle.std.specs.Prelude.{chars, map, ℕ, Bool, List}
use Rattle.cfb_tree.specs.EntryViews.{entry_in}
use Rattle.cfb_tree.specs.CaseTableViews.{case_table_of}
use Rattle.cfb_tree.specs.Objects.{EntriesHoldTree}
use Rattle.cfb_tree.specs.Paths.{Path}
use Rattle.cfb_tree.specs.Tree.{Tree}
use Rattle.cfb_siblings.specs.Links.{holder}
use Rattle.cfb_siblings.specs.Places.{HasEntry, IsStorageAt}
use Rattle.cfb_siblings.specs.Reading.{ReadBy}
use Rattle.cfb_siblings.proofs.Finding.{Came}
use Rattle.cfb_siblings.proofs.rotation.link_to.Given as goal

abbrev pub invariant-loop-step : goal.invariant-loop-step
invariant-loop-step l = HasEntry (map entry_in l.entries) (holder l.link) × ((reads : ℕ → ℕ → List ℕ → Bool) (tree : Tree) (path : Path)
    (h : EntriesHoldTree (case_table_of l.letters) (ReadBy reads) (map entry_in l.entries) tree)
    (s : IsStorageAt (case_table_of l.letters) (map entry_in l.entries) path l.parent)
    → Came (case_table_of l.letters) (map entry_in l.entries) (ReadBy reads) (chars l.name) tree path l.parent h s l.link l.at l._step)
