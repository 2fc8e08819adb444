use Rattle.std.proofs.Common.{◌≡◌, ℕ, ◌<◌, ◌≤◌, length}
use Rattle.std.specs.Prelude.{slice_index}
use Rattle.cfb_sectors.specs.Sectors.{free}
use Rattle.cfb_fat.proofs.difat.drop_free_end.Given as goal

abbrev pub invariant-loop-len : goal.invariant-loop-len
invariant-loop-len l = record {
  inside : l.len ≤ length l.entries.items;
  behind : (k : ℕ) → l.len ≤ k → k < length l.entries.items → slice_index l.entries.items k ≡ free;
}

abbrev pub decreases-loop-len : goal.decreases-loop-len
decreases-loop-len l = l.len
