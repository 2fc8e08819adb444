use Rattle.msi_table_edits.proofs.NewStored.{come_back_three, parts_kept, stored_after}
use Rattle.msi_table_edits.proofs.created.new_tables_are_stored.Goals as goal

pub returns-clause-stored : goal.returns-clause-stored
returns-clause-stored c = stored_after

pub returns-clause-keeps : goal.returns-clause-keeps
returns-clause-keeps c = parts_kept

pub returns-clause-come_back : goal.returns-clause-come_back
returns-clause-come_back c = λ letters tree P sound name columns pool c t v is can. come_back_three letters tree tree P sound name columns pool c t v is can
