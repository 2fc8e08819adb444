use Rattle.std.proofs.Common.{◌≡◌, map, drop}
use Rattle.serde_json.specs.View.{items_view}
use Rattle.msi_values.specs.Datum.{data_of}
use Rattle.json_parts.specs.Values.{row_in}
use Rattle.json_parts.specs.Values.{all_in}
use Rattle.json_parts.proofs.ReadLists.{onto}
use Rattle.json_parts.proofs.values.each_row.Given as goal

abbrev pub invariant-loop-item : goal.invariant-loop-item
invariant-loop-item l = onto (map (λ row. data_of row.items) l.rows.items) (all_in row_in (items_view (drop l.item-index l.list))) ≡ all_in row_in (items_view l.list)
