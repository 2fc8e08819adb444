use Rattle.msi_rewritten.proofs.Edited.{deleted_come_back, updated_come_back}
use Rattle.msi_rewritten.proofs.laws.updated_and_deleted_rows_come_back.Goals as goal

pub returns-clause-updated : goal.returns-clause-updated
returns-clause-updated c = λ letters tree P stores k t at counted may sets condition after is writable places stored order.
    updated_come_back letters tree P stores k t at counted may condition after stored writable places order sets is

pub returns-clause-deleted : goal.returns-clause-deleted
returns-clause-deleted c = λ letters tree P stores k t at counted may condition after is writable places stored order.
    deleted_come_back letters tree P stores k t at counted may condition after stored writable places order is
