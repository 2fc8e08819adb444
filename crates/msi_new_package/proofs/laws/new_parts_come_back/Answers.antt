use Rattle.msi_new_package.proofs.Writable.{new_back}
use Rattle.msi_new_package.proofs.laws.new_parts_come_back.Goals as goal

pub returns : goal.returns
returns c = new_back
