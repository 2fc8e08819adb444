use Rattle.std.proofs.Common.{◌≡◌, take, true}
use Rattle.std.specs.List.{list_all}
use Rattle.msi_tables.specs.Rows.{has_place}
use Rattle.msi_table_edits.proofs.remaining.has_places.Given as goal

abbrev pub invariant-loop-cell : goal.invariant-loop-cell
invariant-loop-cell l = list_all has_place (take l.cell-index l.row) ≡ true
