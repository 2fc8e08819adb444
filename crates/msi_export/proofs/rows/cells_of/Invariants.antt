use Rattle.std.proofs.Common.{◌≡◌, ◌++◌, drop, map}
use Rattle.std.specs.Option.{option_copied}
use Rattle.idt_rows.specs.Rows.{datum_of as cell_datum}
use Rattle.msi_export.specs.Cells as exported
use Rattle.msi_export.proofs.rows.cells_of.Given as goal

-- the cells that stand and those of the values that are left
abbrev pub invariant-loop-at : goal.invariant-loop-at
invariant-loop-at l = map cell_datum l.cells.items ++ map (exported.cell_of (option_copied l.file)) (drop l.at l.row.values) ≡ map (exported.cell_of (option_copied l.file)) l.row.values
