use Rattle.std.proofs.Common.{◌≡◌, ◌++◌, drop}
use Rattle.msi_tables.specs.Table.{key_places}
use Rattle.msi_columns.specs.Held.{columns_of}
use Rattle.msi_tables.proofs.table.Table.primary_key_indices.Given as goal

-- the places so far and those to come
abbrev pub invariant-loop-place : goal.invariant-loop-place
invariant-loop-place l = l.places.items ++ key_places l.place (columns_of (drop l.place l.self.columns.items)) ≡ key_places 0 (columns_of l.self.columns.items)
