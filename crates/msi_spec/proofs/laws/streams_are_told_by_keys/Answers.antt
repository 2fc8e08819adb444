use Rattle.msi_spec.proofs.laws.streams_are_told_by_keys.Goals as goal
use Rattle.msi_spec.proofs.StreamKeys.{one_key, one_stream}

pub returns : goal.returns
returns c = λ letters one other may also. (one_key letters one other may also, one_stream letters one other may also)
