use Rattle.std.specs.Prelude.{◌⊎◌}
use Rattle.package_rules.specs.Rules.{key_found}
use Rattle.package_rules.specs.Sentences.{IsNullKey, RepeatsKey}
use Rattle.package_rules.proofs.Told.{none_told}
use Rattle.package_rules.proofs.ToldKeys.{key_told}
use Rattle.package_rules.proofs.laws.key_is_kept.Goals as goal

pub returns : goal.returns
returns c = λ L. none_told (key_found L) (λ at. IsNullKey L at ⊎ RepeatsKey L at) (key_told L)
