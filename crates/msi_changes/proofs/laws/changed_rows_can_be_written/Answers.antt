use Rattle.msi_changes.proofs.Shapes.{delete_shape, insert_shape, update_shape}
use Rattle.msi_changes.proofs.laws.changed_rows_can_be_written.Goals as goal

pub returns-clause-inserted : goal.returns-clause-inserted
returns-clause-inserted c = insert_shape

pub returns-clause-updated : goal.returns-clause-updated
returns-clause-updated c = update_shape

pub returns-clause-deleted : goal.returns-clause-deleted
returns-clause-deleted c = delete_shape
