use Rattle.cfb_tree.specs.declared.kinds.ObjType.TheVariants.{Unallocated}
use Rattle.cfb_copying.proofs.repairing.is_unused.Goals as goal

pub returns-in-None : goal.returns-in-None
returns-in-None c = ((λ wrong. absurd (cc)), (λ is. absurd (c.in-None.ensures Unallocated is)))
