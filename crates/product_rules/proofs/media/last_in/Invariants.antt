use Rattle.std.proofs.Common.{◌≡◌, ℤ, take}
use Rattle.std.specs.List.{list_any}
use Rattle.product_rules.specs.Media.{reached_by, reaches}
use Rattle.product_rules.proofs.media.last_in.Given as goal

-- the greatest number so far
abbrev pub invariant-loop-row : goal.invariant-loop-row
invariant-loop-row l = (z : ℤ) → reached_by l.last z ≡ list_any (reaches z) (take l.row-index l.rows)
