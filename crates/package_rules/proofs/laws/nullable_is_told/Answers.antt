use Rattle.package_rules.proofs.Told.{nullable_told}
use Rattle.package_rules.proofs.laws.nullable_is_told.Goals as goal

pub returns : goal.returns
returns c = nullable_told
