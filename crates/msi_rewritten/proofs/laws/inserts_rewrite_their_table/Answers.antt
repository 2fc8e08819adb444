use Rattle.msi_rewritten.proofs.Inserted.{insert_rewrites, inserted_come_back}
use Rattle.msi_rewritten.proofs.laws.inserts_rewrite_their_table.Goals as goal

pub returns-clause-rewrites : goal.returns-clause-rewrites
returns-clause-rewrites c = insert_rewrites

pub returns-clause-come_back : goal.returns-clause-come_back
returns-clause-come_back c = inserted_come_back
