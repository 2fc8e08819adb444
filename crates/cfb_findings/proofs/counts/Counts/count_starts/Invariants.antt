use Rattle.std.proofs.Common.{◌≡◌, [], length, take}
use Rattle.cfb_findings.specs.Counted.{CountsMatchUses}
use Rattle.cfb_findings.specs.Links.{AreEnds}
use Rattle.cfb_findings.specs.Views.{counts_of}
use Rattle.cfb_findings.proofs.Listed.{ChainsCounted}
use Rattle.cfb_findings.proofs.counts.Counts.count_starts.Given as goal

-- the chains from the first starts are counted
abbrev pub invariant-loop-start : goal.invariant-loop-start
invariant-loop-start l = record {
  counted : AreEnds l.links l.ends → CountsMatchUses [] (counts_of l.initial.self) → ChainsCounted l.links (take l.start-index l.starts) (counts_of l.self);
  size : length (counts_of l.self) ≡ length (counts_of l.initial.self);
}
