use Rattle.std.proofs.Common.{arith, ap, length}
use Rattle.cfb_mini.specs.LinkViews.{minis_of}
use Rattle.cfb_mini.specs.Views.{mini_fat_of}
use Rattle.cfb_sectors.proofs.OneChain.{chain_unique}
use Rattle.cfb_stream_reads.proofs.opening.open_short.Goals as goal

pub returns-then-len-size-clause-none : goal.returns-then-len-size-clause-none
returns-then-len-size-clause-none g c = λ is sectors chain inside room.
    let same = chain_unique (mini_fat_of c.args.mini.now) c.args.start (minis_of c.in-Ok.links) sectors c.in-Ok.ensures.chain chain in
    omega (arith, room, c.if-len-size.true, c.len.ensures, ap length same)
