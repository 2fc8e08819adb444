use Rattle.std.proofs.Common.{List, get_or, ap, ◌∙◌, arith}
use Rattle.msi_pool_index.specs.Places.{PoolEntry, empty_pool_entry}
use Rattle.msi_pool_index.proofs.PoolSteps.{freed_so, indexed_same, taken_so, used_inside}
use Rattle.msi_pool_index.proofs.places.free_place.Goals as goal

pub returns-clause-ok : goal.returns-clause-ok
returns-clause-ok g c = taken_so _ _ _ c.args.index (c.remove_room.ensures.places ∙ c.in-Ok-add_free.ensures.places ∙ c.in-Ok.ensures.same.0) (used_inside _ c.args.index (omega (arith, c.requires.used))) c.take_use.ensures.places

pub returns-clause-index : goal.returns-clause-index
returns-clause-index g c =
    let s = g.P.PoolParts.seen c.args.parts.now in
    let m = g.P.PoolParts.seen c.make_ready.new.self in
    let same = c.in-Ok.ensures.same in
    let a = c.in-Ok-add_free.ensures in
    let b = c.remove_room.ensures in
    let n = c.take_use.ensures in
    freed_so m (g.P.PoolParts.seen c.add_free.new.self) (g.P.PoolParts.seen c.remove_room.new.self) (g.P.PoolParts.seen c.take_use.new.self) (indexed_same s m c.requires.index same) c.args.index
    (ap (λ (z : List PoolEntry). (get_or z c.args.index empty_pool_entry).count) same.0 ∙ c.requires.used) a.places a.ok a.room b.places b.free b.room n.places n.free n.room
