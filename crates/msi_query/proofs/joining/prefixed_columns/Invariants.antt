use Rattle.std.proofs.Common.{◌≡◌, ◌++◌, drop, map}
use Rattle.msi_columns.specs.Column.{side_column}
use Rattle.msi_columns.specs.Held.{columns_of}
use Rattle.msi_query.proofs.joining.prefixed_columns.Given as goal

abbrev pub invariant-loop-column : goal.invariant-loop-column
invariant-loop-column l = columns_of l.copies.items ++ map (side_column l.prefix) (columns_of (drop l.column-index l.columns)) ≡ map (side_column l.prefix) (columns_of l.columns)
