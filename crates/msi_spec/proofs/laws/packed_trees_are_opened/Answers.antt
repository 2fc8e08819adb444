use Rattle.msi_spec.proofs.OpenedIs.{opened_is}
use Rattle.msi_spec.proofs.laws.packed_trees_are_opened.Goals as goal

pub returns : goal.returns
returns c = λ letters tree P packs may. opened_is letters tree P packs may
