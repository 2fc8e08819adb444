use Rattle.std.proofs.Common.{◌≡◌, ◌++◌, map, drop}
use Rattle.serde_json.specs.View.{view}
use Rattle.msi_values.specs.Datum.{datum_of}
use Rattle.installer.specs.Answers.{cell_data}
use Rattle.installer.proofs.text.row_value.Given as goal

abbrev pub invariant-loop-cell : goal.invariant-loop-cell
invariant-loop-cell l = map view l.list.items ++ map cell_data (map datum_of (drop l.cell-index l.row)) ≡ map cell_data (map datum_of l.row)
