use Rattle.std.proofs.Common.{◌≡◌, ◌++◌, ◌∷◌, drop, map, string_bytes}
use Rattle.std.specs.List.{join_with_byte}
use Rattle.msi_columns.specs.Held.{columns_of}
use Rattle.msi_export.proofs.Joined.{left}
use Rattle.msi_export.proofs.headings.names_line.Given as goal

-- what stands and the parts that are left
abbrev pub invariant-loop-column : goal.invariant-loop-column
invariant-loop-column l = string_bytes l.line ++ left l.is_first (map (λ c. c.name) (columns_of (drop l.column-index l.columns))) ≡ join_with_byte 9 (map (λ c. c.name) (columns_of l.columns))
