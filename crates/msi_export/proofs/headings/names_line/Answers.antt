use Rattle.std.proofs.Common.{rules, drop, map, string_bytes, ◌+◌}
use Rattle.std.specs.List.{join_with_byte}
use Rattle.msi_columns.specs.Held.{column_of, columns_of}
use Rattle.msi_export.proofs.Joined.{next_column, next_part}
use Rattle.msi_export.proofs.headings.names_line.Goals as goal

pub loop-column-preserved : goal.loop-column-preserved
loop-column-preserved c =
    next_part c.loop-column.is_first (string_bytes c.loop-column.line) (string_bytes c.push_part.new.line) (column_of c.column-item.result).name (map (λ c. c.name) (columns_of (drop c.loop-column.column-index c.args.columns.now)))
    (map (λ c. c.name) (columns_of (drop (c.loop-column.column-index + 1) c.args.columns.now))) (join_with_byte 9 (map (λ c. c.name) (columns_of c.args.columns.now))) (search rules)
    (next_column (λ c. c.name) c.args.columns.now c.loop-column.column-index c.column-item.result c.loop-column-test.true c.column-item.is) (search rules)
