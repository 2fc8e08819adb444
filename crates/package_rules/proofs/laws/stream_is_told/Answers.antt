use Rattle.package_rules.proofs.ToldStreams.{stream_told}
use Rattle.package_rules.proofs.laws.stream_is_told.Goals as goal

pub returns : goal.returns
returns c = stream_told
