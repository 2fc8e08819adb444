use Rattle.std.proofs.Common.{◌≡◌, ◌-◌, ◌++◌}
use Rattle.std.specs.List.{range_with_len}
use Rattle.cfb_fat_runs.proofs.walking.push_range.Given as goal

abbrev pub invariant-loop-sector : goal.invariant-loop-sector
invariant-loop-sector l = l.sectors.items ≡ l.fn.sectors.items ++ range_with_len l.first (l.sector - l.first)
