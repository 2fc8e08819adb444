use Rattle.std.proofs.Common.{◌≡◌, map}
use Rattle.serde_json.specs.View.{members_view}
use Rattle.json_parts.specs.Values.{keys_among}
use Rattle.json_parts.proofs.members.are_among.Given as goal

abbrev pub invariant-loop-key : goal.invariant-loop-key
invariant-loop-key l = keys_among (map (λ key. key.now) l.keys) (members_view l.key-iterator) ≡ keys_among (map (λ key. key.now) l.keys) (members_view l.members.entries)
