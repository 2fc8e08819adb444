use Rattle.std.proofs.Common.{◌≡◌, ◌++◌, map}
use Rattle.std.specs.List.{flat_map}
use Rattle.std.specs.Prelude.{string_bytes}
use Rattle.cfb_entries.specs.Listed.{listed_in}
use Rattle.cfb_entries.specs.Lists.{entries_left}
use Rattle.cfb_tree.specs.CaseTableViews.{case_table_of}
use Rattle.msi.specs.Lists.{name_listed}
use Rattle.msi.proofs.streams.names_of.Given as goal

-- the names so far, and those that are to come
abbrev pub invariant-loop-entry : goal.invariant-loop-entry
invariant-loop-entry l =
    map string_bytes l.names.items ++ flat_map (name_listed (case_table_of l.letters)) (map listed_in (entries_left l.entry-iterator)) ≡ flat_map (name_listed (case_table_of l.letters)) (map listed_in (entries_left l.fn.entries))
