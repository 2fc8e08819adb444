use Rattle.std.proofs.Common.{◌≡◌, ◌++◌, map, drop}
use Rattle.std.specs.Prelude.{string_bytes}
use Rattle.serde_json.specs.Data as json
use Rattle.serde_json.specs.View.{view}
use Rattle.installer.proofs.text.names_value.Given as goal

abbrev pub invariant-loop-name : goal.invariant-loop-name
invariant-loop-name l = map view l.list.items ++ map json.string (map string_bytes (drop l.name-index l.names)) ≡ map json.string (map string_bytes l.names)
