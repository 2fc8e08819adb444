use Rattle.msi_rewritten.proofs.Beside.{put_keeps_storages}
use Rattle.msi_rewritten.proofs.laws.storages_stay.Goals as goal

pub returns : goal.returns
returns c = put_keeps_storages
