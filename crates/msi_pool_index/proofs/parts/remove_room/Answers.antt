use Rattle.std.proofs.Common.{◌∙◌}
use Rattle.msi_pool_index.proofs.PoolRooms.{room_dropped}
use Rattle.msi_pool_index.proofs.parts.remove_room.Goals as goal

pub returns-then-take_room : goal.returns-then-take_room
returns-then-take_room c = λ t i. room_dropped c.take_room.new.room c.remove.new.self c.args.text.now c.remove.ensures.updates (rw c.if-take_room.true at c.take_room.ensures.last) t i ∙ c.take_room.ensures.room t i
