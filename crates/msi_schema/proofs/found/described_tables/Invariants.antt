use Rattle.std.proofs.Common.{◌≡◌, List, take, true}
use Rattle.std.specs.List.{list_all, list_any}
use Rattle.msi_values.specs.Datum.{Datum}
use Rattle.msi_tables.specs.Schema.{begins_with, names_described, schema_of}
use Rattle.msi_schema.specs.Headings.{ColumnsAreCounted, AreColumnsOfTables}
use Rattle.msi_schema.specs.Index.{IsIndex, rows_said}
use Rattle.msi_schema.proofs.found.described_tables.Given as goal

-- the tables so far are described, and their columns are found under their names
abbrev pub invariant-loop-row : goal.invariant-loop-row
invariant-loop-row l = (rows others : List (List Datum)) → IsIndex 2 rows l.columns → IsIndex 2 others l.validation → ColumnsAreCounted (rows_said l.tables) rows l.counts
    → (list_all (names_described rows others) (rows_said (take l.row-index l.tables)) ≡ true)
    × AreColumnsOfTables (λ name. list_any (begins_with name) (rows_said (take l.row-index l.tables))) (schema_of rows others) l.found
