use Rattle.std.proofs.Common.{◌≡◌, ◌+◌, ◌-◌, ◌++◌, List}
use Rattle.std.specs.Prelude.{filter, option_map}
use Rattle.msi_values.specs.Datum.{Datum}
use Rattle.msi_columns.specs.Held.{columns_of}
use Rattle.msi_tables.specs.Schema.{begins_with, columns_read}
use Rattle.msi_schema.specs.Index.{IsIndex}
use Rattle.msi_schema.proofs.tables.columns_of_table.Given as goal

-- the columns so far and those that are left are all
abbrev pub invariant-loop-before : goal.invariant-loop-before
invariant-loop-before l = (rows others : List (List Datum)) → IsIndex 2 rows l.columns → IsIndex 2 others l.validation
    → option_map (λ cs. columns_of l.described.items ++ cs) (columns_read others (filter (begins_with l.table) rows) (l.count - l.before) (l.before + 1))
    ≡ columns_read others (filter (begins_with l.table) rows) l.count 1
