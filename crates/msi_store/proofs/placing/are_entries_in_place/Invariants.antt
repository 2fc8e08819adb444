use Rattle.std.proofs.Common.{◌≡◌, List, map}
use Rattle.std.specs.List.{list_all}
use Rattle.cfb_entries.specs.Listed.{listed_in}
use Rattle.cfb_entries.specs.Lists.{entries_left}
use Rattle.cfb_tree.specs.CaseTableViews.{case_table_of}
use Rattle.msi_tables.specs.Table.{Heading}
use Rattle.msi_store.specs.Placing.{is_listed_well, KeysMatchTables}
use Rattle.msi_store.proofs.placing.are_entries_in_place.Given as goal

-- those so far stand where they may
abbrev pub invariant-loop-entry : goal.invariant-loop-entry
invariant-loop-entry l = (headings : List Heading) → KeysMatchTables (case_table_of l.letters) headings l.streams
    → list_all (is_listed_well (case_table_of l.letters) headings) (map listed_in (entries_left l.fn.entries)) ≡ list_all (is_listed_well (case_table_of l.letters) headings) (map listed_in (entries_left l.entry-iterator))
