use Rattle.std.proofs.Common.{◌<◌, List, length, get_or, ap, ◌∙◌, subst, sym}
use Rattle.std.specs.Prelude.{string_bytes}
use Rattle.msi_pool_index.specs.Places.{PoolEntry, empty_pool_entry}
use Rattle.msi_pool_index.proofs.PoolSteps.{free_used_so, indexed_same}
use Rattle.msi_pool_index.proofs.places.use_free.Goals as goal

pub returns-clause-index : goal.returns-clause-index
returns-clause-index g c =
    let s = g.P.PoolParts.seen c.args.parts.now in
    let m = g.P.PoolParts.seen c.make_ready.new.self in
    let same = c.make_ready.ensures.same in
    let a = c.in-Ok-add_room.ensures in
    let b = c.remove_free.ensures in
    let n = c.write.ensures in
    free_used_so m (g.P.PoolParts.seen c.add_room.new.self) (g.P.PoolParts.seen c.remove_free.new.self) (g.P.PoolParts.seen c.write.new.self) (indexed_same s m c.requires.index same) c.args.index
    (subst (λ (z : List PoolEntry). c.args.index < length z) (sym same.0) c.requires.inside) (ap (λ (z : List PoolEntry). (get_or z c.args.index empty_pool_entry).count) same.0 ∙ c.requires.free)
    (string_bytes c.args.text) c.as_str.result.now c.as_str.ensures.value a.places a.free a.ok b.places b.free b.room n.places n.free n.room
