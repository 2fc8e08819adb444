use Rattle.std.proofs.Common.{◌≡◌, ℤ, take}
use Rattle.product_rules.specs.Media.{is_reached, reached_by}
use Rattle.product_rules.proofs.media.last_sequence.Given as goal

-- the greatest number so far
abbrev pub invariant-loop-table : goal.invariant-loop-table
invariant-loop-table l = (z : ℤ) → reached_by l.last z ≡ is_reached (take l.table-index l.tables) z
