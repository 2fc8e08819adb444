use Rattle.msi_tables.proofs.Writable.{rows_move_by_keys, stored_rows_move}
use Rattle.msi_spec.proofs.StoredBack.{come_back}
use Rattle.msi_spec.proofs.laws.stored_rows_come_back.Goals as goal

pub returns-clause-stored : goal.returns-clause-stored
returns-clause-stored c = λ long columns rows stored is can. come_back long columns rows stored (stored_rows_move columns rows stored is) can

pub returns-clause-by_keys : goal.returns-clause-by_keys
returns-clause-by_keys c = λ long pool columns rows stored is can. come_back long columns rows stored (rows_move_by_keys pool columns rows stored is) can
