use Rattle.std.proofs.Common.{◌≡◌, ◌+◌, ◌++◌, drop}
use Rattle.msi_findings.specs.Findings.{found_from, unused, unused_places}
use Rattle.msi_findings.proofs.texts.unused_texts.Given as goal

-- what was found so far, and what is to come
abbrev pub invariant-loop-index : goal.invariant-loop-index
invariant-loop-index l = l.found.items ++ found_from unused (l.index + 1) (drop l.index l.pool.pool.places) ≡ unused_places l.pool.pool.places
