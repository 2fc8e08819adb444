use Rattle.std.proofs.Common.{◌≡◌, ℕ, List}
use Rattle.cfb_findings.specs.Counted.{CountsMatchUses}
use Rattle.cfb_findings.specs.Findings.{shared}
use Rattle.cfb_findings.specs.Views.{counts_of}
use Rattle.cfb_findings.proofs.counts.Counts.shared.Given as goal

abbrev pub invariant-loop-part : goal.invariant-loop-part
invariant-loop-part l = (uses : List ℕ) → CountsMatchUses uses (counts_of l.self) → l.found.items ≡ shared l.part uses
