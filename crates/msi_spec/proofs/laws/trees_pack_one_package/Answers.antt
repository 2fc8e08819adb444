use Rattle.msi_spec.proofs.PacksOnce.{packs_once}
use Rattle.msi_spec.proofs.laws.trees_pack_one_package.Goals as goal

pub returns : goal.returns
returns c = λ letters tree P Q p q. packs_once letters tree P Q p q
