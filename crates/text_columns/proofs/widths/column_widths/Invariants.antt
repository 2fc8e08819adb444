use Rattle.std.proofs.Common.{◌≡◌, ◌∷◌, drop, map}
use Rattle.text_columns.specs.Columns.{wider, widths}
use Rattle.text_columns.proofs.widths.column_widths.Given as goal

-- the rows so far, and those that are left
abbrev pub invariant-loop-row : goal.invariant-loop-row
invariant-loop-row l =
    wider l.widths.items (widths l.limit (map (λ row. row.items) (drop l.row-index l.rows)))
    ≡ widths l.limit (l.heading ∷ map (λ row. row.items) l.rows)
