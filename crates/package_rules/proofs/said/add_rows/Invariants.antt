use Rattle.std.proofs.Common.{List, [], ◌∷◌}
use Rattle.msi_listing.specs.Content.{CellContent}
use Rattle.package_rules.specs.Firsts.{AreFirsts}
use Rattle.package_rules.proofs.Given.{Given}
use Rattle.package_rules.proofs.said.add_rows.Given as goal

-- the rows so far are in the map, behind those that were
abbrev pub invariant-loop-row : goal.invariant-loop-row
invariant-loop-row l = (before : List (List CellContent)) → AreFirsts before l.fn.said → Given (λ i r. r ∷ []) l.rows l.row-index before (λ rows. AreFirsts rows l.said)
