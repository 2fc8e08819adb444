use Rattle.msi_joined.proofs.Each.{each}
use Rattle.msi_joined.proofs.laws.joined_inserts_are_done_each.Goals as goal

pub returns : goal.returns
returns c = λ P counted name first more Q done. each P counted name first more Q done
