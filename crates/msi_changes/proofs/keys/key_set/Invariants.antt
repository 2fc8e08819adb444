use Rattle.std.proofs.Common.{◌≡◌}
use Rattle.std.specs.Vec.Iter.{into_iter_items}
use Rattle.msi_tables.specs.Table.{are_distinct}
use Rattle.msi_changes.specs.Keys.{keys_said}
use Rattle.msi_changes.proofs.NewKeys.{AddUp, are_fresh}
use Rattle.msi_changes.proofs.keys.key_set.Given as goal

-- whether those that are left are new, and which keys there are
abbrev pub invariant-loop-key : goal.invariant-loop-key
invariant-loop-key l = record {
  fresh : are_fresh (keys_said l.set.keys) (keys_said (into_iter_items l.key-iterator)) ≡ are_distinct (keys_said l.fn.keys.items);
  all : AddUp (keys_said l.set.keys) (keys_said (into_iter_items l.key-iterator)) (keys_said l.fn.keys.items);
}
