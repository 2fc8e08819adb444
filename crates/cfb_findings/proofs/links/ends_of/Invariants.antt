use Rattle.std.proofs.Common.{◌≡◌, ◌<◌, ◌-◌, ℕ, length}
use Rattle.cfb_findings.specs.Links.{behind, linked}
use Rattle.cfb_findings.proofs.links.ends_of.Given as goal

-- so many links were followed from each part
abbrev pub invariant-loop-reach : goal.invariant-loop-reach
invariant-loop-reach l = record {
  some : 0 < l.reach;
  followed : (n : ℕ) → behind l.ends.items n ≡ linked l.reach l.links n;
}

abbrev pub decreases-loop-reach : goal.decreases-loop-reach
decreases-loop-reach l = length l.links - l.reach
