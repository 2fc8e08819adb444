use Rattle.std.proofs.Common.{◌≡◌, drop}
use Rattle.serde_json.specs.View.{items_view}
use Rattle.msi_values.specs.Datum.{data_of}
use Rattle.json_parts.specs.Values.{value_in}
use Rattle.json_parts.specs.Values.{all_in}
use Rattle.json_parts.proofs.ReadLists.{onto}
use Rattle.json_parts.proofs.values.values_of.Given as goal

abbrev pub invariant-loop-item : goal.invariant-loop-item
invariant-loop-item l = onto (data_of l.row.items) (all_in value_in (items_view (drop l.item-index l.list))) ≡ all_in value_in (items_view l.list)
