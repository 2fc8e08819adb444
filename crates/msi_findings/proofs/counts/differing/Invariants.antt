use Rattle.std.proofs.Common.{◌≡◌, ◌+◌, ◌++◌, drop}
use Rattle.msi_findings.specs.Findings.{found_from, miscounted, miscounts}
use Rattle.msi_findings.proofs.counts.differing.Given as goal
use Rattle.msi_recounted.specs.Counts.{listed_uses}

-- what was found so far, and what is to come
abbrev pub invariant-loop-index : goal.invariant-loop-index
invariant-loop-index l =
    l.found.items ++ found_from (miscounted (listed_uses l.uses)) (l.index + 1) (drop l.index l.pool.pool.places) ≡ miscounts (listed_uses l.uses) l.pool.pool.places
