use Rattle.msi_props.proofs.Comeback.{written_set_is_read}
use Rattle.msi_props.proofs.laws.written_sets_are_read.Goals as goal

pub returns : goal.returns
returns c = written_set_is_read
