use Rattle.std.proofs.Common.{◌≡◌, ◌++◌, drop, string_bytes}
use Rattle.msi_tables.specs.Table.{key_values}
use Rattle.msi_export.specs.Cells.{keys_text, stream_of}
use Rattle.msi_export.proofs.rows.stream_of_row.Given as goal

-- what stands and the keys that are left
abbrev pub invariant-loop-at : goal.invariant-loop-at
invariant-loop-at l = string_bytes l.name ++ keys_text (key_values (drop l.at l.row.columns) (drop l.at l.row.values)) ≡ stream_of l.table l.row
