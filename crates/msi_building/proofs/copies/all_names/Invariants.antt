use Rattle.std.proofs.Common.{◌≡◌, ◌∷◌, map, take}
use Rattle.std.specs.Prelude.{string_bytes}
use Rattle.msi_building.specs.Saying.{said_tables}
use Rattle.msi_tables.specs.Schema.{columns_name, tables_name}
use Rattle.msi_building.proofs.copies.all_names.Given as goal

-- the names so far, behind the two
abbrev pub invariant-loop-table : goal.invariant-loop-table
invariant-loop-table l = map string_bytes l.names.items ≡ tables_name ∷ columns_name ∷ said_tables (take l.table-index l.tables)
