use Rattle.std.proofs.Common.{◌≡◌, ◌-◌, ◌≤◌, length}
use Rattle.cfb_fat_runs.specs.Blocks.{joined_runs, HasOneLessAt}
use Rattle.cfb_fat_runs.proofs.run_list.gather.Given as goal

abbrev pub invariant-gather : goal.invariant-gather
invariant-gather l = record {
  to : l.at ≤ l.last;
  size : length l.blocks.items ≡ length l.fn.blocks.items;
  runs : joined_runs l.blocks.items ≡ joined_runs l.fn.blocks.items;
  less : HasOneLessAt l.len l.at l.blocks.items;
}

abbrev pub decreases-gather : goal.decreases-gather
decreases-gather l = l.last - l.at
