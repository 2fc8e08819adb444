use Rattle.std.proofs.Common.{◌≡◌, drop}
use Rattle.serde_json.specs.View.{items_view}
use Rattle.serde_json.specs.Find.{as_str}
use Rattle.msi_changes.specs.Said.{update_condition, update_name, update_sets}
use Rattle.json_parts.specs.Values.{all_in, pair_in, value_in}
use Rattle.json_parts.proofs.ReadLists.{onto}
use Rattle.command_file.proofs.reading.with_sets.Given as goal

abbrev pub invariant-loop-item : goal.invariant-loop-item
invariant-loop-item l =
    (update_name l.update ≡ update_name l.fn.update) × (update_condition l.update ≡ update_condition l.fn.update)
    × (onto (update_sets l.update) (all_in (pair_in as_str value_in) (items_view (drop l.item-index l.list)))
    ≡ onto (update_sets l.fn.update) (all_in (pair_in as_str value_in) (items_view l.list)))
