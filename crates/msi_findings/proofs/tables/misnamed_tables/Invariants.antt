use Rattle.std.proofs.Common.{◌≡◌, ◌++◌, drop}
use Rattle.msi_findings.specs.Findings.{misnamed}
use Rattle.msi_findings.proofs.tables.misnamed_tables.Given as goal
use Rattle.msi_schema.specs.Headings.{headings_in}

-- those that were found, and those to come
abbrev pub invariant-loop-table : goal.invariant-loop-table
invariant-loop-table l = headings_in l.found.items ++ misnamed (headings_in (drop l.table-index l.tables)) ≡ misnamed (headings_in l.tables)
