use Rattle.msi_spec.proofs.SoundUses.{rows_read}
use Rattle.msi_spec.proofs.laws.read_rows_name_no_place_0.Goals as goal

pub returns : goal.returns
returns c = λ long kinds bytes rows is. (rows_read long kinds bytes rows is).1
