use Rattle.std.proofs.Common.{◌≡◌, ◌++◌, drop}
use Rattle.msi_columns.specs.Held.{columns_of}
use Rattle.msi_query.proofs.stored.copied_columns.Given as goal

abbrev pub invariant-loop-column : goal.invariant-loop-column
invariant-loop-column l = columns_of l.copies.items ++ columns_of (drop l.column-index l.columns) ≡ columns_of l.columns
