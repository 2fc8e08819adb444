use Rattle.std.proofs.Common.{List, [], ◌∷◌, ◌+◌, map}
use Rattle.msi_listing.specs.HeldCell.{cell_of}
use Rattle.package_rules.specs.Firsts.{AreEntries}
use Rattle.package_rules.specs.Foreign.{Entry}
use Rattle.package_rules.proofs.Given.{Given}
use Rattle.package_rules.proofs.entries.add_row.Given as goal

-- the cells so far are in the set, behind those that were
abbrev pub invariant-loop-at : goal.invariant-loop-at
invariant-loop-at l =
    (before : List Entry) → AreEntries l.asked before l.fn.set
    → Given (λ k d. record { table = l.table; column = k + 1; cell = d } ∷ []) (map cell_of l.cells) l.at before (λ es. AreEntries l.asked es l.set)
