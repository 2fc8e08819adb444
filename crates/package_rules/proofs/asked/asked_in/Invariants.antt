use Rattle.std.proofs.Common.{[], cond}
use Rattle.std.specs.Prelude.{bytes_eq, codes}
use Rattle.package_rules.specs.Asked.{AreAsked}
use Rattle.package_rules.proofs.Given.{Given}
use Rattle.package_rules.proofs.asked.asked_in.Given as goal

-- what the rows so far name is asked for
abbrev pub invariant-loop-table : goal.invariant-loop-table
invariant-loop-table l = Given (λ i t. cond (bytes_eq t.name (codes "_Validation")) t.rows []) l.tables l.table-index [] (λ rows. AreAsked rows l.asked)
