use Rattle.std.proofs.Common.{rules, true, cond, ap, ◌∙◌}
use Rattle.std.specs.Prelude.{◌==◌, ◌&&◌, bytes_eq}
use Rattle.std.proofs.lemmas.Result.{err_from_is_err_and}
use Rattle.msi_pool_index.proofs.Rooms.{over_changed, over_kept, texts_kept}
use Rattle.msi_pool_index.proofs.draftparts.put_room.Goals as goal

pub returns-in_err-insert-clause-after_error : goal.returns-in_err-insert-clause-after_error
returns-in_err-insert-clause-after_error c =
    let p = err_from_is_err_and c.from_residual-in_err-insert.result c.from_residual-in_err-insert.ensures.1 in
    rw p.1 (λ t i. over_kept c.args.base.now.places c.hold_text.new.room (c.get_mut.follows.lender c.insert.new.self) c.args.text.now c.insert.new.self ((c.get_mut.follows.holds c.insert.new.self).3 (search rules)) c.in-Some.places.now c.in-Some.ensures.value c.in_err-insert.ensures.err t i ∙ c.in_ok-hold_text.ensures.same t i)

pub returns-in_err-insert-clause-kept : goal.returns-in_err-insert-clause-kept
returns-in_err-insert-clause-kept c = λ t had. texts_kept c.hold_text.new.room (c.get_mut.follows.lender c.insert.new.self) c.args.text.now c.insert.new.self ((c.get_mut.follows.holds c.insert.new.self).3 (search rules)) t (c.in_ok-hold_text.ensures.kept t had)

pub returns-in_ok-insert-clause-ok : goal.returns-in_ok-insert-clause-ok
returns-in_ok-insert-clause-ok c = λ t i. over_changed c.args.base.now.places c.hold_text.new.room (c.get_mut.follows.lender c.insert.new.self) c.args.text.now c.insert.new.self ((c.get_mut.follows.holds c.insert.new.self).3 (search rules)) c.in-Some.places.now c.args.index true c.in-Some.ensures.value c.in_ok-insert.ensures.updates t i
    ∙ ap (cond (bytes_eq t c.args.text.now && (i == c.args.index)) true) (c.in_ok-hold_text.ensures.same t i)

pub returns-in_ok-insert-clause-kept : goal.returns-in_ok-insert-clause-kept
returns-in_ok-insert-clause-kept c = λ t had. texts_kept c.hold_text.new.room (c.get_mut.follows.lender c.insert.new.self) c.args.text.now c.insert.new.self ((c.get_mut.follows.holds c.insert.new.self).3 (search rules)) t (c.in_ok-hold_text.ensures.kept t had)
