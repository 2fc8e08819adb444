use Rattle.std.proofs.Common.{◌+◌, ◌<◌, ◌^◌, ◌==◌, ◌∙◌, ap, sym, refl, arith, cond, true, length}
use Rattle.std.specs.Prelude.{◌&&◌, bytes_eq}
use Rattle.msi_pool_index.specs.PoolParts.{has_place, has_room, parts_of}
use Rattle.msi_pool_index.proofs.PoolRooms.{set_after}
use Rattle.msi_pool_index.proofs.PoolSteps.{read_free, read_used, read_full}
use Rattle.msi_pool_index.proofs.indexing.note_place.Goals as goal

pub returns-then-count-eq0-clause-ok : goal.returns-then-count-eq0-clause-ok
returns-then-count-eq0-clause-ok c = λ ps h few x.
    let less : length ps + 1 < 2 ^ 32 = omega arith in
    read_free (parts_of ps c.args.free.now c.args.room.now 0) (parts_of _ c.insert.new.self c.args.room.now 0) x (record { text = c.args.text.now; count = c.args.count }) less refl c.if-count-eq0.true
    (λ k. set_after c.args.free.now c.insert.new.self c.args.index true c.in_ok-insert.ensures.updates k ∙ ap (λ z. cond (k == z) true (has_place c.args.free.now k)) (sym h)) (λ t k. refl)

pub returns-then-count-lt65535-clause-ok : goal.returns-then-count-lt65535-clause-ok
returns-then-count-lt65535-clause-ok c = λ ps h few x.
    let less : length ps + 1 < 2 ^ 32 = omega arith in
    read_used (parts_of ps c.args.free.now c.args.room.now 0) (parts_of _ c.args.free.now c.add_room.new.room 0) x (record { text = c.args.text.now; count = c.args.count }) less refl (omega (arith, c.if-count-eq0.false)) c.if-count-lt65535.true
    (λ k. refl) (λ t k. c.in_ok-add_room.ensures.ok t k ∙ ap (λ z. cond (bytes_eq t c.args.text.now && (k == z)) true (has_room c.args.room.now t k)) (sym h))

pub returns-clause-ok : goal.returns-clause-ok
returns-clause-ok c = λ ps h few x.
    let less : length ps + 1 < 2 ^ 32 = omega arith in
    read_full (parts_of ps c.args.free.now c.args.room.now 0) (parts_of _ c.args.free.now c.args.room.now 0) x (record { text = c.args.text.now; count = c.args.count }) less refl (omega (arith, c.if-count-lt65535.false)) (λ k. refl) (λ t k. refl)
