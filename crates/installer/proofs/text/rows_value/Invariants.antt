use Rattle.std.proofs.Common.{◌≡◌, ◌++◌, map, drop}
use Rattle.serde_json.specs.View.{view}
use Rattle.msi_values.specs.Datum.{data_of}
use Rattle.installer.specs.Answers.{row_data}
use Rattle.installer.proofs.text.rows_value.Given as goal

abbrev pub invariant-loop-row : goal.invariant-loop-row
invariant-loop-row l = map view l.list.items ++ map row_data (map (λ r. data_of r.items) (drop l.row-index l.rows)) ≡ map row_data (map (λ r. data_of r.items) l.rows)
