use Rattle.std.proofs.Common.{◌<◌, length, get_or, ap, ◌∙◌, subst, sym, arith}
use Rattle.std.specs.Prelude.{List, string_bytes}
use Rattle.msi_pool_index.specs.Places.{PoolEntry, empty_pool_entry}
use Rattle.msi_pool_index.proofs.PoolSteps.{filled_so, again_so, indexed_same}
use Rattle.msi_pool_index.proofs.places.use_again.Goals as goal

pub returns-then-count-eq65534-clause-index : goal.returns-then-count-eq65534-clause-index
returns-then-count-eq65534-clause-index g c =
    let s = g.P.PoolParts.seen c.args.parts.now in
    let m = g.P.PoolParts.seen c.make_ready.new.self in
    let same = c.make_ready.ensures.same in
    let a = c.remove_room.ensures in
    let n = c.write.ensures in
    filled_so m (g.P.PoolParts.seen c.remove_room.new.self) (g.P.PoolParts.seen c.write.new.self) (indexed_same s m c.requires.index same) c.args.index
    (subst (λ (z : List PoolEntry). c.args.index < length z) (sym same.0) c.requires.inside) (string_bytes c.args.text) c.args.count
    (ap (λ (z : List PoolEntry). get_or z c.args.index empty_pool_entry) same.0 ∙ c.requires.place) c.if-count-eq65534.true a.places a.free a.room n.places n.free n.room

pub returns-else-count-eq65534-clause-index : goal.returns-else-count-eq65534-clause-index
returns-else-count-eq65534-clause-index g c =
    let s = g.P.PoolParts.seen c.args.parts.now in
    let m = g.P.PoolParts.seen c.make_ready.new.self in
    let same = c.make_ready.ensures.same in
    let n = c.write-else-count-eq65534.ensures in
    let few : c.args.count < 65534 = omega (arith, c.requires.room, c.if-count-eq65534.false) in
    again_so m (g.P.PoolParts.seen c.write-else-count-eq65534.new.self) (indexed_same s m c.requires.index same) c.args.index
    (subst (λ (z : List PoolEntry). c.args.index < length z) (sym same.0) c.requires.inside) (string_bytes c.args.text) c.args.count
    (ap (λ (z : List PoolEntry). get_or z c.args.index empty_pool_entry) same.0 ∙ c.requires.place) c.requires.used few n.places n.free n.room
