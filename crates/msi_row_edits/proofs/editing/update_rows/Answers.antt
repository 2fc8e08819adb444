use Rattle.std.proofs.Common.{subst}
use Rattle.msi_changes.specs.Said.{update_condition, update_sets}
use Rattle.msi_spec.specs.Calls.{Updates}
use Rattle.msi_row_edits.specs.Edited.{EditsPackageRows, EditFullOnlyWithoutRoom}
use Rattle.msi_row_edits.proofs.editing.update_rows.Goals as goal

pub returns-clause-edits : goal.returns-clause-edits
returns-clause-edits g c =
    subst (λ n. EditsPackageRows (λ P Q answer. Updates P n (update_sets c.args.update.now) (update_condition c.args.update.now) Q answer) c.edit.result c.args.store.now c.edit.new.store c.args.pool.now c.edit.new.pool)
    c.table_name-name.ensures c.edit.ensures.edits

pub returns-clause-full_only_if : goal.returns-clause-full_only_if
returns-clause-full_only_if g c =
    subst (λ n. EditFullOnlyWithoutRoom (λ P Q answer. Updates P n (update_sets c.args.update.now) (update_condition c.args.update.now) Q answer) c.edit.result c.args.store.now c.edit.new.store c.args.pool.now) c.table_name-name.ensures c.edit.ensures.full_only_if
