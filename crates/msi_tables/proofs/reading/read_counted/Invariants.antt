use Rattle.std.proofs.Common.{◌≡◌, ◌+◌, ◌++◌, ℕ, map}
use Rattle.msi_tables.specs.Rows.{row_at, numbers_from}
use Rattle.msi_tables.specs.Held.{rows_held}
use Rattle.msi_tables.proofs.reading.read_counted.Given as goal

-- the rows so far and those to come
abbrev pub invariant-loop-r : goal.invariant-loop-r
invariant-loop-r l = (left : ℕ) → l.r + left ≡ l.count →
    rows_held l.rows.items ++ map (row_at l.long l.count l.bytes 0 l.kinds) (numbers_from l.r left) ≡ map (row_at l.long l.count l.bytes 0 l.kinds) (numbers_from 0 l.count)
