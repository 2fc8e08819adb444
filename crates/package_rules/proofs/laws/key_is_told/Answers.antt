use Rattle.package_rules.proofs.ToldKeys.{key_told}
use Rattle.package_rules.proofs.laws.key_is_told.Goals as goal

pub returns : goal.returns
returns c = key_told
