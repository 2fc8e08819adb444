use Rattle.cfb_mini.proofs.Longer.{lengthens_begun}
use Rattle.cfb_mini.specs.LinkViews.{minis_of}
use Rattle.cfb_sectors.proofs.Appending.{on_ok}
use Rattle.cfb_stream_writes.proofs.short_lengths.take_room.Goals as goal

pub returns-then-len-clause-lengthened : goal.returns-then-len-clause-lengthened
returns-then-len-clause-lengthened g c = λ own has linked. lengthens_begun c.args.mini.now (minis_of c.args.links.now) own has linked

pub returns-clause-lengthened : goal.returns-clause-lengthened
returns-clause-lengthened g c = on_ok c.lengthen_mini_chain.result _ _ (λ did own has linked. (did own has linked).0) c.lengthen_mini_chain.ensures.lengthened
