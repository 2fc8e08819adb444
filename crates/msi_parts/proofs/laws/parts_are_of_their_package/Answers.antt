use Rattle.msi_parts.proofs.Memory.{memory_is}
use Rattle.msi_parts.proofs.laws.parts_are_of_their_package.Goals as goal

pub returns : goal.returns
returns c = memory_is
