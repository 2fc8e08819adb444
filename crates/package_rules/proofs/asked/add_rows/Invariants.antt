use Rattle.std.proofs.Common.{List, [], ◌∷◌}
use Rattle.msi_listing.specs.Content.{CellContent}
use Rattle.package_rules.specs.Asked.{AreAsked}
use Rattle.package_rules.proofs.Given.{Given}
use Rattle.package_rules.proofs.asked.add_rows.Given as goal

-- what the rows so far name is asked for, beside what was
abbrev pub invariant-loop-row : goal.invariant-loop-row
invariant-loop-row l = (before : List (List CellContent)) → AreAsked before l.fn.asked → Given (λ i r. r ∷ []) l.rows l.row-index before (λ rows. AreAsked rows l.asked)
