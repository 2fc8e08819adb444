use Rattle.std.proofs.Common.{◌≡◌, false, length, map}
use Rattle.std.specs.List.{list_any}
use Rattle.std.specs.Prelude.{chars}
use Rattle.cfb_siblings.specs.Places.{LeadsTo}
use Rattle.cfb_tree.specs.EntryViews.{entry_in}
use Rattle.cfb_tree.specs.CaseTableViews.{case_table_of}
use Rattle.cfb_tree.specs.Paths.{Path, is_back}
use Rattle.cfb_tree.specs.Tree.{Tree}
use Rattle.cfb_entries.specs.Parts.{parts_left}
use Rattle.cfb_entries.specs.Rules.{EntriesHoldSizes}
use Rattle.cfb_entries.proofs.Following.{Came}
use Rattle.cfb_entries.proofs.kinds.id_at.Given as goal

-- where no part takes a name back any more it is known, and the names so far lead to the entry
abbrev pub invariant-parts : goal.invariant-parts
invariant-parts l =
    (l.turns ≡ false → list_any (λ part. is_back part) (parts_left l.parts) ≡ false)
    × ((tree : Tree) → EntriesHoldSizes (case_table_of l.letters) (map entry_in l.entries) tree
    → (names : Path) × Came l.path names (parts_left l.parts) × LeadsTo (case_table_of l.letters) (map entry_in l.entries) 0 (map chars names) l.id)

abbrev pub decreases-parts : goal.decreases-parts
decreases-parts l = length (parts_left l.parts)
