use Rattle.std.proofs.Common.{ℕ, ◌<◌, ◌≤◌, ◌+◌, ◌⊎◌, ◌≡◌, get_or}
use Rattle.std.specs.Prelude.{All}
use Rattle.staged.specs.First.{standing_of}
use Rattle.staged.proofs.file.MemoryFile.may_stand.Given as goal

abbrev pub invariant-loop-place : goal.invariant-loop-place
invariant-loop-place l = (k : ℕ) → k < l.place → All (λ r. (k < r.0) ⊎ (r.0 + r.1 ≤ k)) (standing_of l.self).ranges → get_or l.left k 0 ≡ get_or l.kept k 0
