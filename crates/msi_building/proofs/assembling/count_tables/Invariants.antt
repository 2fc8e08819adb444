use Rattle.std.proofs.Common.{◌≡◌}
use Rattle.msi_building.proofs.assembling.count_tables.Given as goal

-- it stands over the same places
abbrev pub invariant-loop-table : goal.invariant-loop-table
invariant-loop-table l = l.draft.under ≡ l.fn.draft.under
