use Rattle.msi_spec.proofs.PackedFrom.{packed_from}
use Rattle.msi_spec.proofs.laws.read_parts_pack_their_package.Goals as goal

pub returns : goal.returns
returns c = λ letters tree kind summary pool parts tables known all. packed_from letters tree kind summary pool parts tables known all
