use Rattle.package_rules.specs.Rules.{nullable_found}
use Rattle.package_rules.specs.Sentences.{IsUntakenNull}
use Rattle.package_rules.proofs.Told.{none_told, nullable_told}
use Rattle.package_rules.proofs.laws.nullable_is_kept.Goals as goal

pub returns : goal.returns
returns c = λ L. none_told (nullable_found L) (IsUntakenNull L) (nullable_told L)
