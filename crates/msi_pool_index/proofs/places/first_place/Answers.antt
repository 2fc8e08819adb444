use Rattle.std.proofs.Common.{arith}
use Rattle.msi_pool_index.proofs.PoolIndexed.{first_so}
use Rattle.msi_pool_index.proofs.places.first_place.Goals as goal

pub returns-clause-place : goal.returns-clause-place
returns-clause-place g c =
    first_so (g.P.PoolParts.seen c.args.parts.now) (g.P.PoolParts.seen c.least_free.new.self) c.requires c.args.text.now c.len-end.result c.len-end.ensures c.least_free.result c.least_with_room.result c.least_free.ensures.least c.least_free.ensures.same.2 c.least_with_room.ensures.least
    c.min.result c.unwrap_or-free.result c.unwrap_or-open.result c.unwrap_or-free.ensures c.unwrap_or-open.ensures (grind arith)
