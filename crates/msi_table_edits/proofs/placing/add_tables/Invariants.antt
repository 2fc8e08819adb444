use Rattle.std.proofs.Common.{◌≡◌, ◌++◌, drop}
use Rattle.msi_schema.specs.Headings.{headings_in}
use Rattle.msi_table_edits.proofs.placing.add_tables.Given as goal

abbrev pub invariant-loop-table : goal.invariant-loop-table
invariant-loop-table l = headings_in l.all.items ++ headings_in (drop l.table-index l.tables) ≡ headings_in l.initial.all.items ++ headings_in l.tables
