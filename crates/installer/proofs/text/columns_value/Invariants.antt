use Rattle.std.proofs.Common.{◌≡◌, ◌++◌, map, drop}
use Rattle.serde_json.specs.View.{view}
use Rattle.msi_columns.specs.Held.{column_of}
use Rattle.installer.specs.Answers.{column_data}
use Rattle.installer.proofs.text.columns_value.Given as goal

abbrev pub invariant-loop-column : goal.invariant-loop-column
invariant-loop-column l = map view l.list.items ++ map column_data (map column_of (drop l.column-index l.columns)) ≡ map column_data (map column_of l.columns)
