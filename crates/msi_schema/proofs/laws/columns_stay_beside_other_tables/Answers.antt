use Rattle.msi_schema.proofs.Beside.{added, moved, taken}
use Rattle.msi_schema.proofs.laws.columns_stay_beside_other_tables.Goals as goal

pub returns-clause-moved : goal.returns-clause-moved
returns-clause-moved c = moved

pub returns-clause-added : goal.returns-clause-added
returns-clause-added c = added

pub returns-clause-taken : goal.returns-clause-taken
returns-clause-taken c = taken
