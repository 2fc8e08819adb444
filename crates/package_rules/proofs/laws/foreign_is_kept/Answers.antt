use Rattle.package_rules.specs.Foreign.{foreign_found}
use Rattle.package_rules.specs.Sentences.{LeadsNowhere}
use Rattle.package_rules.proofs.Told.{none_told}
use Rattle.package_rules.proofs.ToldForeign.{foreign_told}
use Rattle.package_rules.proofs.laws.foreign_is_kept.Goals as goal

pub returns : goal.returns
returns c = λ L. none_told (foreign_found L) (LeadsNowhere L) (foreign_told L)
