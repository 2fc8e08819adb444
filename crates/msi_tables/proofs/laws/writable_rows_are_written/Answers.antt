use Rattle.msi_tables.proofs.Writable.{moved_rows_are_writable, read_rows_are_writable, rows_move_by_keys, stored_rows_move, writable_rows_have_bytes}
use Rattle.msi_tables.proofs.laws.writable_rows_are_written.Goals as goal

pub returns-clause-written : goal.returns-clause-written
returns-clause-written c = writable_rows_have_bytes

pub returns-clause-read : goal.returns-clause-read
returns-clause-read c = λ long columns bytes rows small is. read_rows_are_writable long columns bytes small rows is

pub returns-clause-stored : goal.returns-clause-stored
returns-clause-stored c = λ long columns rows stored is. moved_rows_are_writable long columns rows stored (stored_rows_move columns rows stored is)

pub returns-clause-by_keys : goal.returns-clause-by_keys
returns-clause-by_keys c = λ long pool columns rows stored is. moved_rows_are_writable long columns rows stored (rows_move_by_keys pool columns rows stored is)
