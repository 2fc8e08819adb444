use Rattle.std.proofs.Common.{ℕ, ◌<◌, ◌≤◌, ◌+◌, ◌⊎◌, get_or}
use Rattle.staged.specs.declared.file.Range.{Range}
use Rattle.staged.proofs.file.MemoryFile.is_apart.Given as goal

abbrev pub invariant-loop-range : goal.invariant-loop-range
invariant-loop-range l = (k : ℕ) (d : Range) → k < l.range-index → (l.place < (get_or l.self.ranges.items k d).at) ⊎ ((get_or l.self.ranges.items k d).at + (get_or l.self.ranges.items k d).len ≤ l.place)
