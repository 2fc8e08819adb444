use Rattle.std.proofs.Common.{refl}
use Rattle.msi_schema.proofs.Rows.{headless}
use Rattle.msi_schema.proofs.laws.columns_are_read_by_their_rows.Goals as goal

pub returns-clause-whole : goal.returns-clause-whole
returns-clause-whole c = λ validation table name n bits. refl

pub returns-clause-none : goal.returns-clause-none
returns-clause-none c = headless
