use Rattle.std.proofs.Common.{◌≡◌, map}
use Rattle.std.specs.List.{range_with_len}
use Rattle.cfb_findings.specs.Rooms.{more_room}
use Rattle.cfb_findings.proofs.rooms.more_rooms.Given as goal

abbrev pub invariant-loop-part : goal.invariant-loop-part
invariant-loop-part l = l.more.items ≡ map (more_room l.rooms l.jumps l.full) (range_with_len 0 l.part)
