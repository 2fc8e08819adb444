use Rattle.std.proofs.Common.{◌≡◌, ◌+◌, ◌++◌, drop}
use Rattle.msi_columns.specs.Held.{columns_of}
use Rattle.msi_findings.specs.Misshapen.{unlike_from}
use Rattle.msi_findings.proofs.validation.unlike_positions.Given as goal

-- those so far, and those to come
abbrev pub invariant-loop-index : goal.invariant-loop-index
invariant-loop-index l = l.found.items ++ unlike_from (l.index + 1) (drop l.index (columns_of l.columns)) (drop l.index (columns_of l.wanted)) ≡ unlike_from 1 (columns_of l.columns) (columns_of l.wanted)
