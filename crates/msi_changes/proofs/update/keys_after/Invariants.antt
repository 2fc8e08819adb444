use Rattle.std.proofs.Common.{◌≡◌, ◌++◌, drop, map}
use Rattle.std.specs.Rc.{rc_value}
use Rattle.msi_tables.specs.Held.{heading_of, rows_held}
use Rattle.msi_changes.specs.Changes.{key_after}
use Rattle.msi_expr.specs.Conditions.{condition_of}
use Rattle.msi_changes.specs.Said.{sets_of}
use Rattle.msi_changes.specs.Keys.{keys_said}
use Rattle.msi_changes.proofs.update.keys_after.Given as goal

abbrev pub invariant-loop-row : goal.invariant-loop-row
invariant-loop-row l =
    let key = key_after l.pool.pool (heading_of (rc_value l.table)).columns (sets_of l.sets) (condition_of l.condition) in
    keys_said l.keys.items ++ map key (rows_held (drop l.row-index l.rows)) ≡ map key (rows_held l.rows)
