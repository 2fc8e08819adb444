use Rattle.std.proofs.Common.{◌≡◌, ◌++◌, map, drop}
use Rattle.serde_json.specs.View.{view}
use Rattle.msi_props.specs.Held.{pair_in}
use Rattle.installer.specs.Answers.{numbered_data}
use Rattle.installer.proofs.text.summary_value.Given as goal

abbrev pub invariant-loop-numbered : goal.invariant-loop-numbered
invariant-loop-numbered l = map view l.list.items ++ map numbered_data (map pair_in (drop l.numbered-index l.properties)) ≡ map numbered_data (map pair_in l.properties)
