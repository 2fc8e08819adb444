use Rattle.std.proofs.Common.{◌≡◌, ◌-◌, ◌≤◌, length}
use Rattle.cfb_fat_runs.specs.RunLists.{all_runs, room_for_runs}
use Rattle.cfb_fat_runs.proofs.run_list.RunList.reserve.Given as goal

abbrev pub invariant-loop-self : goal.invariant-loop-self
invariant-loop-self l = record {
  runs : all_runs l.self ≡ all_runs l.fn.self;
  room : room_for_runs l.fn.self ≤ room_for_runs l.self;
}

abbrev pub decreases-loop-self : goal.decreases-loop-self
decreases-loop-self l = l.wanted - length l.self.blocks.items
