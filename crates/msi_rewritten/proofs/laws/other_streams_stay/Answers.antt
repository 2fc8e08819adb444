use Rattle.msi_rewritten.proofs.Beside.{put_beside}
use Rattle.msi_rewritten.proofs.laws.other_streams_stay.Goals as goal

pub returns : goal.returns
returns c = λ letters name other bytes os differs. put_beside letters name bytes other differs os
