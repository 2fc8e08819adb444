use Rattle.cfb_findings.specs.Rooms.{more_room}
use Rattle.cfb_findings.proofs.Rooming.{mapped_more}
use Rattle.cfb_findings.proofs.rooms.more_rooms.Goals as goal

pub loop-part-preserved : goal.loop-part-preserved
loop-part-preserved c =
    mapped_more (more_room c.args.rooms.now c.args.jumps.now c.args.full) c.loop-part.more.items c.push.new.self.items c.loop-part.part c.more_room.result c.loop-part.invariant
    c.more_room.ensures c.in_ok-push.ensures.items
