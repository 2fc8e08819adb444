use Rattle.std.proofs.Common.{◌≡◌, ℕ, List, length}
use Rattle.cfb_sectors.specs.Sectors.{Chain}
use Rattle.cfb_findings.specs.Counted.{left_to_count, CountsMatchUses, FollowLinks}
use Rattle.cfb_findings.specs.Views.{counts_of}
use Rattle.cfb_findings.proofs.Counting.{Walked}
use Rattle.cfb_findings.proofs.counts.Counts.count_chain.Given as goal

-- a front of the chain is counted
abbrev pub invariant-loop-at : goal.invariant-loop-at
invariant-loop-at l = record {
  walked : (ids before : List ℕ) → Chain l.links l.start ids → FollowLinks l.links before → CountsMatchUses before (counts_of l.initial.self) → Walked l.links ids before l.at (counts_of l.self);
  size : length (counts_of l.self) ≡ length (counts_of l.initial.self);
}

abbrev pub decreases-loop-at : goal.decreases-loop-at
decreases-loop-at l = left_to_count (counts_of l.self)
