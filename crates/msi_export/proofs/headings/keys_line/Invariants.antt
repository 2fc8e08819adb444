use Rattle.std.proofs.Common.{◌≡◌, ◌++◌, ◌∷◌, drop, filter, map, string_bytes}
use Rattle.std.specs.List.{join_with_byte}
use Rattle.msi_columns.specs.Held.{columns_of}
use Rattle.msi_export.proofs.Joined.{behind_tabs}
use Rattle.msi_export.proofs.headings.keys_line.Given as goal

-- what stands and the parts that are left
abbrev pub invariant-loop-column : goal.invariant-loop-column
invariant-loop-column l = string_bytes l.line ++ behind_tabs (map (λ c. c.name) (filter (λ c. c.key) (columns_of (drop l.column-index l.columns)))) ≡ join_with_byte 9 (l.name ∷ map (λ c. c.name) (filter (λ c. c.key) (columns_of l.columns)))
