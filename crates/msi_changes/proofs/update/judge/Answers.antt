use Rattle.std.proofs.Common.{◌∙◌, sym, ap, inr, not}
use Rattle.std.specs.Prelude.{◌||◌}
use Rattle.std.specs.Rc.{rc_value}
use Rattle.msi_tables.specs.Held.{heading_of, rows_held}
use Rattle.msi_tables.specs.Table.{are_distinct}
use Rattle.msi_changes.specs.Applied.{with_rows}
use Rattle.msi_changes.specs.Changes.{keys_after}
use Rattle.msi_expr.specs.Conditions.{condition_of}
use Rattle.msi_changes.specs.Said.{sets_of}
use Rattle.msi_changes.proofs.Updating.{unset, repeated, sets_valid, condition_known, key_set}
use Rattle.msi_changes.proofs.update.judge.Goals as goal

pub returns-then-not-are_sets-clause-refused_only_if : goal.returns-then-not-are_sets-clause-refused_only_if
returns-then-not-are_sets-clause-refused_only_if c =
    inr (unset c.args.pool.now.pool (with_rows (heading_of (rc_value c.args.table.now)) (rows_held c.args.rows.now)) (sets_of c.args.sets.now) (condition_of c.args.condition.now)
    (sets_valid _ c.args.table.now.value c.args.sets.now _ c.deref.ensures (sym c.if-not-are_sets.true ∙ c.are_sets.ensures)))

pub returns-then-not-sets_key-clause-accepted : goal.returns-then-not-sets_key-clause-accepted
returns-then-not-sets_key-clause-accepted c = record {
  valid = sets_valid _ c.args.table.now.value c.args.sets.now _ c.deref.ensures (sym c.if-not-are_sets.false ∙ c.are_sets.ensures);
  known = condition_known _ c.args.table.now.value (condition_of c.args.condition.now) _ c.deref-2.ensures (sym c.if-not-branch.false ∙ c.in_ok-knows_condition.ensures.ok);
  distinct = ap (λ b. not b || are_distinct (keys_after c.args.pool.now.pool (with_rows (heading_of (rc_value c.args.table.now)) (rows_held c.args.rows.now)) (sets_of c.args.sets.now) (condition_of c.args.condition.now))) (key_set _ c.args.table.now.value c.args.sets.now _ c.deref-3.ensures (sym c.if-not-sets_key.true ∙ c.sets_key.ensures));
}

pub returns-in-None-clause-refused_only_if : goal.returns-in-None-clause-refused_only_if
returns-in-None-clause-refused_only_if c =
    let twice = (rw c.in-None.is at c.in_ok-key_set.ensures.ok) in
    inr (repeated c.args.pool.now.pool (with_rows (heading_of (rc_value c.args.table.now)) (rows_held c.args.rows.now)) (sets_of c.args.sets.now) (condition_of c.args.condition.now)
    (sets_valid _ c.args.table.now.value c.args.sets.now _ c.deref.ensures (sym c.if-not-are_sets.false ∙ c.are_sets.ensures))
    (condition_known _ c.args.table.now.value (condition_of c.args.condition.now) _ c.deref-2.ensures (sym c.if-not-branch.false ∙ c.in_ok-knows_condition.ensures.ok))
    (key_set _ c.args.table.now.value c.args.sets.now _ c.deref-3.ensures (sym c.if-not-sets_key.false ∙ c.sets_key.ensures))
    (ap are_distinct (sym c.in_ok-keys.ensures.ok) ∙ twice))

pub returns-clause-accepted : goal.returns-clause-accepted
returns-clause-accepted c =
    let once = (rw c.in-Some.is at c.in_ok-key_set.ensures.ok) in
    record {
      valid = sets_valid _ c.args.table.now.value c.args.sets.now _ c.deref.ensures (sym c.if-not-are_sets.false ∙ c.are_sets.ensures);
      known = condition_known _ c.args.table.now.value (condition_of c.args.condition.now) _ c.deref-2.ensures (sym c.if-not-branch.false ∙ c.in_ok-knows_condition.ensures.ok);
      distinct = ap (λ b. not b || are_distinct (keys_after c.args.pool.now.pool (with_rows (heading_of (rc_value c.args.table.now)) (rows_held c.args.rows.now)) (sets_of c.args.sets.now) (condition_of c.args.condition.now))) (key_set _ c.args.table.now.value c.args.sets.now _ c.deref-3.ensures (sym c.if-not-sets_key.false ∙ c.sets_key.ensures)) ∙ ap are_distinct (sym c.in_ok-keys.ensures.ok) ∙ once.0;
    }
