use Rattle.std.proofs.Common.{◌≡◌, ◌++◌, List, map}
use Rattle.cfb_entries.specs.Listed.{listed_in}
use Rattle.cfb_entries.specs.Lists.{entries_left}
use Rattle.cfb_tree.specs.CaseTableViews.{case_table_of}
use Rattle.msi_findings.specs.Misplaced.{names_of}
use Rattle.msi_findings.specs.Placing.{misplaced_in, KeysMatchHeadings}
use Rattle.msi_findings.proofs.objects.among.Given as goal
use Rattle.msi_tables.specs.Table.{Heading}

-- those that were found, and those to come
abbrev pub invariant-loop-entry : goal.invariant-loop-entry
invariant-loop-entry l = (headings : List Heading) → KeysMatchHeadings (case_table_of l.letters) headings l.names
    → names_of l.found.items ++ misplaced_in (case_table_of l.letters) headings (map listed_in (entries_left l.entry-iterator))
    ≡ misplaced_in (case_table_of l.letters) headings (map listed_in (entries_left l.fn.entries))
