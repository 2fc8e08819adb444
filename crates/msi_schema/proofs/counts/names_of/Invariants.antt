use Rattle.std.proofs.Common.{◌≡◌, ℕ, List, [], take}
use Rattle.msi_schema.specs.Headings.{at_text}
use Rattle.msi_schema.specs.Index.{rows_said}
use Rattle.msi_schema.proofs.Told.{counted}
use Rattle.msi_schema.proofs.counts.names_of.Given as goal

-- the names so far, each with no row
abbrev pub invariant-loop-row : goal.invariant-loop-row
invariant-loop-row l = (name : List ℕ) → at_text l.names name ≡ counted (rows_said (take l.row-index l.tables)) [] name
