use Rattle.std.proofs.Common.{ℕ, ◌≤◌}
use Rattle.cfb_siblings.specs.Changes.{IsUnused}
use Rattle.cfb_directory.specs.Entries.{entries_in, IsOneOf}
use Rattle.cfb_directory.proofs.free.unused_among.Given as goal

abbrev pub invariant-loop-id : goal.invariant-loop-id
invariant-loop-id l = (k : ℕ) → l.id ≤ k → IsUnused (entries_in l.entries) k → IsOneOf l.found.items k
