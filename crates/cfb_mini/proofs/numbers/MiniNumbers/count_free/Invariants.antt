use Rattle.std.proofs.Common.{◌≡◌, ◌-◌, ◌≤◌, take, length}
use Rattle.std.specs.List.{count_by}
use Rattle.std.specs.Prelude.{nat_eq}
use Rattle.cfb_sectors.specs.Sectors.{free}
use Rattle.cfb_mini.proofs.numbers.MiniNumbers.count_free.Given as goal

abbrev pub invariant-loop-at : goal.invariant-loop-at
invariant-loop-at l = record {
  stop : l.stop ≤ length l.self.items.items;
  inside : l.at ≤ l.stop;
  few : l.count ≤ l.most;
  counted : l.count ≡ count_by (λ entry. nat_eq entry free) (take l.at l.self.items.items);
}

abbrev pub decreases-loop-at : goal.decreases-loop-at
decreases-loop-at l = l.stop - l.at
