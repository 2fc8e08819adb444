use Rattle.cfb_tree.specs.declared.kinds.ObjType.TheVariants.{Stream}
use Rattle.cfb_stream_writes.proofs.creating.is_stream.Goals as goal

pub returns-in-None : goal.returns-in-None
returns-in-None c = ((λ wrong. absurd (cc)), (λ is. absurd (c.in-None.ensures Stream is)))
