use Rattle.std.proofs.Common.{◌≡◌, ◌+◌, ◌<◌, ◌^◌, length, ap, sym, ◌∙◌, arith, get_or}
use Rattle.std.specs.Prelude.{string_bytes, slice_set}
use Rattle.std.proofs.lemmas.Result.{on_ok_weaker}
use Rattle.msi_pool_index.specs.Places.{empty_pool_entry}
use Rattle.msi_pool_index.proofs.PoolPlaces.{with_use-set, with_use-push, place_among-room}
use Rattle.msi_pool_index.proofs.PoolSteps.{least_is_free, pushed_or_same, used_again}
use Rattle.msi_pool_index.proofs.places.count_at.Goals as goal

pub returns-then-len-index-clause-ok : goal.returns-then-len-index-clause-ok
returns-then-len-index-clause-ok g c =
    let ps = (g.P.PoolParts.seen c.args.parts.now).places in
    on_ok_weaker c.push.result (λ e. e ∙ with_use-push (string_bytes c.args.text) ps c.args.index c.requires.place (omega (arith, c.len.ensures, c.if-len-index.true))) c.push.ensures.ok

pub returns-then-len-index-clause-index : goal.returns-then-len-index-clause-index
returns-then-len-index-clause-index g c =
    let s = g.P.PoolParts.seen c.args.parts.now in
    let n = g.P.PoolParts.seen c.push.new.self in
    let few : length s.places < 2 ^ 24 = omega (arith, c.len.ensures, c.if-len-index.true, c.requires.few) in
    pushed_or_same s n c.requires.index (string_bytes c.args.text) few c.push.result c.push.ensures.ok c.push.ensures.room c.push.ensures.after_error c.push.ensures.same c.push.ensures.free

pub use_free-requires-clause-least : goal.use_free-requires-clause-least
use_free-requires-clause-least g c =
    let s = g.P.PoolParts.seen c.args.parts.now in
    let m = g.P.PoolParts.seen c.count-count.new.self in
    let same = c.count-count.ensures.same in
    let none : (get_or s.places c.args.index empty_pool_entry).count ≡ 0 = sym c.count-count.ensures.count ∙ c.if-count-eq0.true in
    let inside : c.args.index < length s.places = omega (arith, c.len.ensures, c.if-len-index.false) in
    let least = least_is_free (string_bytes c.args.text) s c.requires.index c.args.index c.requires.place inside none in
    record {
      some = same.1 c.args.index ∙ least.some;
      none_below = λ k l. same.1 k ∙ least.none_below k l;
      none = tt;
    }

pub returns-then-count-eq0-clause-ok : goal.returns-then-count-eq0-clause-ok
returns-then-count-eq0-clause-ok g c =
    let ps = (g.P.PoolParts.seen c.args.parts.now).places in
    let none : (get_or ps c.args.index empty_pool_entry).count ≡ 0 = sym c.count-count.ensures.count ∙ c.if-count-eq0.true in
    let inside : c.args.index < length ps = omega (arith, c.len.ensures, c.if-len-index.false) in
    on_ok_weaker c.use_free.result (λ e. e ∙ ap (λ z. slice_set z c.args.index (record { text = string_bytes c.args.text; count = 1 })) c.count-count.ensures.same.0
    ∙ ap (λ k. slice_set ps c.args.index (record { text = string_bytes c.args.text; count = k + 1 })) (sym none)
    ∙ with_use-set (string_bytes c.args.text) ps c.args.index empty_pool_entry c.requires.place inside) c.use_free.ensures.ok

pub use_again-requires-clause-place : goal.use_again-requires-clause-place
use_again-requires-clause-place g c =
    let ps = (g.P.PoolParts.seen c.args.parts.now).places in
    let used : 0 < (get_or ps c.args.index empty_pool_entry).count = grind (arith, c.count-count.ensures.count, c.if-count-eq0.false) in
    ap (λ z. get_or z c.args.index empty_pool_entry) c.count-count.ensures.same.0
    ∙ used_again (string_bytes c.args.text) ps c.args.index c.requires.place used
    ∙ ap (λ k. record { text = string_bytes c.args.text; count = k }) (sym c.count-count.ensures.count)

pub use_again-requires-clause-room : goal.use_again-requires-clause-room
use_again-requires-clause-room g c =
    let ps = (g.P.PoolParts.seen c.args.parts.now).places in
    let inside : c.args.index < length ps = omega (arith, c.len.ensures, c.if-len-index.false) in
    let room = place_among-room (string_bytes c.args.text) ps c.args.index empty_pool_entry c.requires.place inside in
    omega (arith, room, c.count-count.ensures.count)

pub returns-clause-ok : goal.returns-clause-ok
returns-clause-ok g c =
    let ps = (g.P.PoolParts.seen c.args.parts.now).places in
    let inside : c.args.index < length ps = omega (arith, c.len.ensures, c.if-len-index.false) in
    on_ok_weaker c.use_again.result (λ e. e ∙ ap (λ z. slice_set z c.args.index (record { text = string_bytes c.args.text; count = c.count-count.result + 1 })) c.count-count.ensures.same.0
    ∙ ap (λ k. slice_set ps c.args.index (record { text = string_bytes c.args.text; count = k + 1 })) c.count-count.ensures.count
    ∙ with_use-set (string_bytes c.args.text) ps c.args.index empty_pool_entry c.requires.place inside) c.use_again.ensures.ok
