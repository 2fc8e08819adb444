use Rattle.std.proofs.Common.{rules}
use Rattle.msi_pool_index.proofs.Rooms.{nothing_in, text_put, text_dropped, others_kept}
use Rattle.msi_pool_index.proofs.drafts.put_places.Goals as goal

pub returns-then-is_empty-clause-room : goal.returns-then-is_empty-clause-room
returns-then-is_empty-clause-room c = text_dropped c.args.room.now c.remove.new.self c.args.text.now c.args.places (nothing_in c.args.places.keys (search rules)) c.remove.ensures.updates

pub returns-then-is_empty-clause-kept : goal.returns-then-is_empty-clause-kept
returns-then-is_empty-clause-kept c = others_kept c.args.room.now c.remove.new.self c.args.text.now _ c.remove.ensures.updates

pub returns-in-Some-clause-room : goal.returns-in-Some-clause-room
returns-in-Some-clause-room c = text_put c.args.room.now (c.get_mut.follows.lender c.args.places) c.args.text.now c.args.places ((c.get_mut.follows.holds c.args.places).3 (search rules))

pub returns-in-Some-clause-kept : goal.returns-in-Some-clause-kept
returns-in-Some-clause-kept c = others_kept c.args.room.now (c.get_mut.follows.lender c.args.places) c.args.text.now _ ((c.get_mut.follows.holds c.args.places).3 (search rules))
