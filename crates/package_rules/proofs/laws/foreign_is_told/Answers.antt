use Rattle.package_rules.proofs.ToldForeign.{foreign_told}
use Rattle.package_rules.proofs.laws.foreign_is_told.Goals as goal

pub returns : goal.returns
returns c = foreign_told
