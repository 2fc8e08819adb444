use Rattle.std.proofs.Common.{◌≡◌, ◌++◌, drop, map}
use Rattle.std.specs.Prelude.{string_bytes}
use Rattle.std.specs.List.{filter_map}
use Rattle.msi_columns.specs.Column.{column_place}
use Rattle.msi_tables.specs.Held.{heading_of}
use Rattle.msi_query.proofs.cutting.places_of.Given as goal

abbrev pub invariant-loop-name : goal.invariant-loop-name
invariant-loop-name l =
    let found = column_place (heading_of l.table).columns in
    l.places.items ++ filter_map found (map string_bytes (drop l.name-index l.names)) ≡ filter_map found (map string_bytes l.names)
