use Rattle.std.proofs.Common.{◌≡◌, ◌++◌, ℕ, List, length, take}
use Rattle.cfb_findings.specs.Counted.{CountsMatchUses}
use Rattle.cfb_findings.specs.Views.{counts_of}
use Rattle.cfb_findings.proofs.counts.Counts.count_all.Given as goal

-- the first parts are counted
abbrev pub invariant-loop-part : goal.invariant-loop-part
invariant-loop-part l = record {
  counted : (before : List ℕ) → CountsMatchUses before (counts_of l.initial.self) → CountsMatchUses (take l.part-index l.parts ++ before) (counts_of l.self);
  size : length (counts_of l.self) ≡ length (counts_of l.initial.self);
}
