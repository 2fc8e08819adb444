use Rattle.msi_spec.proofs.Splitting.{joined, parted}
use Rattle.msi_spec.proofs.laws.packages_are_packed_in_three_parts.Goals as goal

pub returns : goal.returns
returns c = λ letters tree P. (parted letters tree P, λ parts. joined letters tree P parts.0 parts.1 parts.2)
