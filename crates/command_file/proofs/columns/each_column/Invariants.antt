use Rattle.std.proofs.Common.{◌≡◌, drop}
use Rattle.serde_json.specs.View.{items_view}
use Rattle.msi_columns.specs.Held.{columns_of}
use Rattle.command_file.specs.Commands.{column_in}
use Rattle.json_parts.specs.Values.{all_in}
use Rattle.json_parts.proofs.ReadLists.{onto}
use Rattle.command_file.proofs.columns.each_column.Given as goal

abbrev pub invariant-loop-item : goal.invariant-loop-item
invariant-loop-item l = onto (columns_of l.columns.items) (all_in column_in (items_view (drop l.item-index l.list))) ≡ all_in column_in (items_view l.list)
