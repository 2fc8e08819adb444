use Rattle.std.proofs.Common.{◌≡◌, take}
use Rattle.msi_columns.specs.Held.{columns_of}
use Rattle.msi_copies.proofs.copies.copies_of.Given as goal

-- the columns so far
abbrev pub invariant-loop-column : goal.invariant-loop-column
invariant-loop-column l = columns_of l.copies.items ≡ columns_of (take l.column-index l.columns)
