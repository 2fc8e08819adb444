use Rattle.std.proofs.Common.{◌≡◌, ◌++◌, drop, map}
use Rattle.std.specs.String.{string_bytes}
use Rattle.text_columns.specs.Columns.{line, table_lines}
use Rattle.text_columns.proofs.lines.table_lines.Given as goal

-- the lines so far, and those of the rows that are left
abbrev pub invariant-loop-row : goal.invariant-loop-row
invariant-loop-row l =
    map string_bytes l.lines.items ++ map (line l.widths.items) (map (λ row. row.items) (drop l.row-index l.rows))
    ≡ table_lines l.limit l.heading (map (λ row. row.items) l.rows)
