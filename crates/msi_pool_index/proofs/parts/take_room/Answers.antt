use Rattle.std.proofs.Common.{rules, false}
use Rattle.msi_pool_index.proofs.PoolRooms.{room_changed}
use Rattle.msi_pool_index.proofs.parts.take_room.Goals as goal

pub returns-in-Some-clause-room : goal.returns-in-Some-clause-room
returns-in-Some-clause-room c = room_changed c.args.room.now (c.get_mut.follows.lender c.remove.new.self) c.args.text.now c.in-Some.places.now c.remove.new.self c.args.index false ((c.get_mut.follows.holds c.remove.new.self).3 (search rules)) c.in-Some.ensures.value c.remove.ensures.updates
