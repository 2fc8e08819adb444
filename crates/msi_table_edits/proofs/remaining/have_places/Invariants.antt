use Rattle.std.proofs.Common.{◌≡◌, take, true}
use Rattle.std.specs.List.{list_all}
use Rattle.msi_tables.specs.Rows.{has_place}
use Rattle.msi_table_edits.proofs.remaining.have_places.Given as goal

abbrev pub invariant-loop-row : goal.invariant-loop-row
invariant-loop-row l = list_all (λ row. list_all has_place row.items) (take l.row-index l.rows) ≡ true
