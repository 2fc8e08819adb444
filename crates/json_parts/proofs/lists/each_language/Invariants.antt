use Rattle.std.proofs.Common.{◌≡◌, drop}
use Rattle.serde_json.specs.View.{items_view}
use Rattle.std.specs.Prelude.{◌^◌}
use Rattle.json_parts.specs.Values.{whole_in}
use Rattle.json_parts.specs.Values.{all_in}
use Rattle.json_parts.proofs.ReadLists.{onto}
use Rattle.json_parts.proofs.lists.each_language.Given as goal

abbrev pub invariant-loop-item : goal.invariant-loop-item
invariant-loop-item l = onto (l.ids.items) (all_in (whole_in (2 ^ 16)) (items_view (drop l.item-index l.list))) ≡ all_in (whole_in (2 ^ 16)) (items_view l.list)
