use Rattle.std.proofs.Common.{◌≡◌, ℕ, ◌-◌, ◌<◌, ◌≤◌, length}
use Rattle.std.specs.Prelude.{slice_index}
use Rattle.cfb_sectors.specs.Sectors.{free}
use Rattle.cfb_mini.proofs.numbers.MiniNumbers.find_free.Given as goal

abbrev pub invariant-loop-found : goal.invariant-loop-found
invariant-loop-found l = record {
  most : l.found ≤ length l.self.items.items;
  none : (k : ℕ) → k < l.found → slice_index l.self.items.items k ≡ free → ⊥;
}

abbrev pub decreases-loop-found : goal.decreases-loop-found
decreases-loop-found l = length l.self.items.items - l.found
