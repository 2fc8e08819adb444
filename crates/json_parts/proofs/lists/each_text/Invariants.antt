use Rattle.std.proofs.Common.{◌≡◌, map, drop}
use Rattle.serde_json.specs.View.{items_view}
use Rattle.std.specs.Prelude.{string_bytes}
use Rattle.serde_json.specs.Find.{as_str}
use Rattle.json_parts.specs.Values.{all_in}
use Rattle.json_parts.proofs.ReadLists.{onto}
use Rattle.json_parts.proofs.lists.each_text.Given as goal

abbrev pub invariant-loop-item : goal.invariant-loop-item
invariant-loop-item l = onto (map string_bytes l.texts.items) (all_in as_str (items_view (drop l.item-index l.list))) ≡ all_in as_str (items_view l.list)
