use Rattle.std.proofs.Common.{◌≡◌, []}
use Rattle.std.specs.Vec.Iter.{into_iter_items}
use Rattle.msi_changes.specs.Changes.{new_keys}
use Rattle.msi_changes.specs.Keys.{keys_said}
use Rattle.msi_changes.proofs.keys.check_new_keys.Given as goal

-- what is left to be judged
abbrev pub invariant-loop-key : goal.invariant-loop-key
invariant-loop-key l = new_keys (keys_said l.stored.keys) (keys_said l.earlier.keys) (keys_said (into_iter_items l.key-iterator)) ≡ new_keys (keys_said l.stored.keys) [] (keys_said l.fn.new.items)
