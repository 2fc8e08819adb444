use Rattle.package_rules.specs.Sentences.{IsUnbacked}
use Rattle.package_rules.specs.Streams.{stream_found}
use Rattle.package_rules.proofs.Told.{none_told}
use Rattle.package_rules.proofs.ToldStreams.{stream_told}
use Rattle.package_rules.proofs.laws.stream_is_kept.Goals as goal

pub returns : goal.returns
returns c = λ L. none_told (stream_found L) (IsUnbacked L) (stream_told L)
