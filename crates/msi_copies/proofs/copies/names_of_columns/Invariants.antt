use Rattle.std.proofs.Common.{◌≡◌, map, take}
use Rattle.std.specs.Prelude.{string_bytes}
use Rattle.msi_columns.specs.Held.{columns_of}
use Rattle.msi_copies.proofs.copies.names_of_columns.Given as goal

-- the names so far
abbrev pub invariant-loop-column : goal.invariant-loop-column
invariant-loop-column l = map string_bytes l.names.items ≡ map (λ c. c.name) (columns_of (take l.column-index l.columns))
