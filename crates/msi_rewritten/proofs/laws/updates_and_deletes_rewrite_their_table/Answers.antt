use Rattle.msi_rewritten.proofs.Edited.{delete_rewrites, update_rewrites}
use Rattle.msi_rewritten.proofs.laws.updates_and_deletes_rewrite_their_table.Goals as goal

pub returns-clause-updated : goal.returns-clause-updated
returns-clause-updated c = update_rewrites

pub returns-clause-deleted : goal.returns-clause-deleted
returns-clause-deleted c = delete_rewrites
