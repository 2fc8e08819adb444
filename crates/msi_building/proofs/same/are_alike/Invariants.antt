use Rattle.std.proofs.Common.{◌≡◌, ◌↔◌, ◌-◌, ◌≤◌, drop, length}
use Rattle.msi_listing.specs.Alike.{AreAlike}
use Rattle.msi_building.proofs.same.are_alike.Given as goal

-- what is left decides
abbrev pub invariant-loop-at : goal.invariant-loop-at
invariant-loop-at g l = record {
  within : l.at ≤ length l.one;
  as_long : length l.one ≡ length l.other;
  left : AreAlike g.T.Alike.same l.one l.other ↔ AreAlike g.T.Alike.same (drop l.at l.one) (drop l.at l.other);
}

abbrev pub decreases-loop-at : goal.decreases-loop-at
decreases-loop-at g l = length l.one - l.at
