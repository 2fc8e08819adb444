use Rattle.std.proofs.Common.{◌≡◌, length}
use Rattle.std.specs.Prelude.{reverse}
use Rattle.std.specs.Prelude.{◌==◌}
use Rattle.msi_summary.specs.Summary.{without_front}
use Rattle.msi_summary.proofs.parts.without_closing.Given as goal

abbrev pub invariant-loop-rest : goal.invariant-loop-rest
invariant-loop-rest l = without_front (λ b. b == 125) (reverse l.bytes) ≡ without_front (λ b. b == 125) (reverse l.rest)

abbrev pub decreases-loop-rest : goal.decreases-loop-rest
decreases-loop-rest l = length l.rest
