use Rattle.std.proofs.Common.{[], cond}
use Rattle.std.specs.Prelude.{bytes_eq, codes}
use Rattle.package_rules.specs.Firsts.{AreFirsts}
use Rattle.package_rules.proofs.Given.{Given}
use Rattle.package_rules.proofs.said.said_in.Given as goal

-- the rows so far are in the map
abbrev pub invariant-loop-table : goal.invariant-loop-table
invariant-loop-table l = Given (λ i t. cond (bytes_eq t.name (codes "_Validation")) t.rows []) l.tables l.table-index [] (λ rows. AreFirsts rows l.said)
