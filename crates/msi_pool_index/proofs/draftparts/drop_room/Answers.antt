use Rattle.std.proofs.Common.{rules, false}
use Rattle.msi_pool_index.proofs.Rooms.{over_changed, texts_kept}
use Rattle.msi_pool_index.proofs.draftparts.drop_room.Goals as goal

pub returns-in-Some-clause-room : goal.returns-in-Some-clause-room
returns-in-Some-clause-room c = λ ps. over_changed ps c.args.room.now (c.get_mut.follows.lender c.remove.new.self) c.args.text.now c.remove.new.self ((c.get_mut.follows.holds c.remove.new.self).3 (search rules)) c.in-Some.places.now c.args.index false c.in-Some.ensures.value c.remove.ensures.updates

pub returns-in-Some-clause-kept : goal.returns-in-Some-clause-kept
returns-in-Some-clause-kept c = texts_kept c.args.room.now (c.get_mut.follows.lender c.remove.new.self) c.args.text.now c.remove.new.self ((c.get_mut.follows.holds c.remove.new.self).3 (search rules))
