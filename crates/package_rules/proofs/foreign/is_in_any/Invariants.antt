use Rattle.std.proofs.Common.{◌≡◌, false, take}
use Rattle.std.specs.List.{list_any}
use Rattle.msi_listing.specs.HeldCell.{cell_of}
use Rattle.package_rules.specs.Firsts.{is_in}
use Rattle.package_rules.proofs.foreign.is_in_any.Given as goal

-- it stands in none of the tables so far
abbrev pub invariant-loop-table : goal.invariant-loop-table
invariant-loop-table l = list_any (λ table. is_in l.entries table.now l.column (cell_of l.cell)) (take l.table-index l.tables) ≡ false
