use Rattle.cfb_tree.specs.declared.kinds.ObjType.TheVariants.{Stream}
use Rattle.cfb_tree_edits.proofs.facts.is_stream.Goals as goal

pub returns-in-None : goal.returns-in-None
returns-in-None c = ((λ wrong. absurd (cc)), (λ is. absurd (c.in-None.ensures Stream is)))
