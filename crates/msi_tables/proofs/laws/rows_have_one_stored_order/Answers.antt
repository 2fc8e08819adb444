use Rattle.msi_tables.proofs.Stored.{stored_once}
use Rattle.msi_tables.proofs.Keys.{stored_by_keys_once}
use Rattle.msi_tables.proofs.laws.rows_have_one_stored_order.Goals as goal

pub returns-clause-stored : goal.returns-clause-stored
returns-clause-stored c = stored_once

pub returns-clause-by_keys : goal.returns-clause-by_keys
returns-clause-by_keys c = stored_by_keys_once
