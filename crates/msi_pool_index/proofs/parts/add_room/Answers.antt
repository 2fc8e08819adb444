use Rattle.std.proofs.Common.{rules, true, subst}
use Rattle.std.specs.Prelude.{Some, string_bytes}
use Rattle.std.specs.Ordering.{nat_cmp}
use Rattle.std.specs.String.{string_cmp}
use Rattle.std.specs.Cmp.Lexicographic.{slice_cmp}
use Rattle.std.specs.BTreeMap.{UpdatesBy}
use Rattle.std.proofs.lemmas.Result.{err_from_is_err_and}
use Rattle.msi_pool_index.proofs.PoolRooms.{room_changed, room_kept, room_made}
use Rattle.msi_pool_index.proofs.parts.add_room.Goals as goal

pub returns-in_ok-insert-in-Some-clause-ok : goal.returns-in_ok-insert-in-Some-clause-ok
returns-in_ok-insert-in-Some-clause-ok c = room_changed c.args.room.now (c.get_mut.follows.lender c.insert.new.self) c.args.text.now c.in-Some.places.now c.insert.new.self c.args.index true ((c.get_mut.follows.holds c.insert.new.self).3 (search rules)) c.in-Some.ensures.value c.in_ok-insert-in-Some.ensures.updates

pub returns-in_err-insert-in-Some-clause-after_error : goal.returns-in_err-insert-in-Some-clause-after_error
returns-in_err-insert-in-Some-clause-after_error c = let p = err_from_is_err_and c.from_residual.result c.from_residual.ensures.1 in rw p.1 (room_kept c.args.room.now (c.get_mut.follows.lender c.insert.new.self) c.args.text.now c.in-Some.places.now c.insert.new.self ((c.get_mut.follows.holds c.insert.new.self).3 (search rules)) c.in-Some.ensures.value c.in_err-insert-in-Some.ensures.err)

pub returns-in_ok-insert-in-None-2-clause-ok : goal.returns-in_ok-insert-in-None-2-clause-ok
returns-in_ok-insert-in-None-2-clause-ok c = room_made c.args.room.now c.insert-in-None-2.new.self c.args.text.now c.new-places.result c.insert-in-None.new.self c.args.index (subst (λ x. UpdatesBy string_cmp (λ key. slice_cmp nat_cmp x (string_bytes key)) c.args.room.now c.insert-in-None-2.new.self (Some c.insert-in-None.new.self)) c.in_ok-from_str-in-None.ensures.ok (subst (λ m. UpdatesBy string_cmp (string_cmp c.in_ok-from_str-in-None.field-0) m c.insert-in-None-2.new.self (Some c.insert-in-None.new.self)) c.get_mut.follows.holds-at-none c.in_ok-insert-in-None-2.ensures.updates)) c.in-None.ensures.value c.new-places.ensures.empty c.in_ok-insert-in-None.ensures.updates
