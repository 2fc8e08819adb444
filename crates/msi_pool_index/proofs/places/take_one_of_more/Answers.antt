use Rattle.std.proofs.Common.{arith}
use Rattle.msi_pool_index.proofs.PoolSteps.{less_so, taken_so, used_inside}
use Rattle.msi_pool_index.proofs.places.take_one_of_more.Goals as goal

pub returns-clause-ok : goal.returns-clause-ok
returns-clause-ok g c =
    let ps = (g.P.PoolParts.seen c.args.parts.now).places in
    taken_so ps _ _ c.args.index c.in-Ok.ensures.same.0 (used_inside ps c.args.index (omega (arith, c.requires.several))) c.take_use.ensures.places

pub returns-clause-index : goal.returns-clause-index
returns-clause-index g c =
    let n = c.take_use.ensures in
    less_so (g.P.PoolParts.seen c.args.parts.now) (g.P.PoolParts.seen c.make_ready.new.self) (g.P.PoolParts.seen c.take_use.new.self) c.requires.index c.args.index c.requires.several c.requires.room c.in-Ok.ensures.same n.places n.free n.room
