use Rattle.msi_schema.proofs.Schemas.{schemas_grow, schemas_moved, schemas_shrink}
use Rattle.msi_schema.proofs.laws.schemas_go_on.Goals as goal

pub returns-clause-moved : goal.returns-clause-moved
returns-clause-moved c = schemas_moved

pub returns-clause-grown : goal.returns-clause-grown
returns-clause-grown c = λ tables columns validation more also table e new numbers filled own says rows apart described.
    schemas_grow tables columns validation more also table e new numbers filled own says rows apart described

pub returns-clause-shrunk : goal.returns-clause-shrunk
returns-clause-shrunk c = λ tables columns validation table. schemas_shrink table tables columns validation
